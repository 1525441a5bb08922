-- Keys that stand at the nodes of a graph.
use Rattle.std.specs.Prelude.{◌≡◌, ℕ, ◌<◌, Bool, true, false, Option, Some, None, slice_get}
use Rattle.ide_graph.specs.Supergraph.{Supergraph}
use Rattle.ide_graph.specs.declared.site.Site.{Site}
use Rattle.ide_graph.specs.declared.site.Site.TheVariants.{Normal, Call, Exit}
use Rattle.ide_wire.specs.declared.key.Key.{Key}
use Rattle.ide_wire.specs.declared.key.Key.TheVariants.{Jump, Summary}
use Rattle.ide_theory.specs.Member.{IsIn}
use Rattle.ide_theory.specs.State.{Claim, State}

-- whether it is the site of a call node
abbrev pub is_call : Site → Bool
is_call (Normal edges) = false
is_call (Call calls along) = true
is_call (Exit start callers) = false

abbrev pub is_some_call : Option Site → Bool
is_some_call None = false
is_some_call (Some site) = is_call site

-- a jump stands at a node, a summary at a call node
abbrev pub IsPlaced : Supergraph → Key → Type 0
IsPlaced graph (Jump n a b) = n < graph.nodes
IsPlaced graph (Summary n a b) = is_some_call (slice_get graph.sites n) ≡ true

module _ {F : Type 0} (graph : Supergraph) where
  -- so does each present key
  abbrev pub AreKeysWithin : (Key → Option F) → Type 0
  AreKeysWithin get = (key : Key) (f : F) → get key ≡ Some f → IsPlaced graph key

  -- and each part of each claim
  pub record AreAllWithin (s : State F) : Type 0 where
    pub keys : AreKeysWithin s.get
    pub parts : (h : ℕ) (c : Claim F) → s.claims h ≡ Some c → (k : Key) (g : F) → IsIn {T = Key × F} (k, g) c.parts → IsPlaced graph k
