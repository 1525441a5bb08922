-- The normal edges out of a node.
use Rattle.std.proofs.Common.{◌≡◌, ◌≢◌, ℕ, ◌+◌, ◌<◌, min, max, ◌∷◌, [], arith, List, ◌⊎◌, inl, inr, Some, None, refl, sym, ap, subst, ◌∙◌}
use Rattle.std.specs.Prelude.{Result, IfOk}
use Rattle.std.proofs.lemmas.Bool.{cases_lt}
use Rattle.std.proofs.lemmas.Result.{IfOk-weaker}
use Rattle.std.proofs.lemmas.Option.{same_Some}
use Rattle.ide_text.specs.declared.program.Expression.{Expression}
use Rattle.ide_text.specs.declared.program.Expression.TheVariants as expression
use Rattle.ide_text.specs.declared.program.Procedure.{Procedure}
use Rattle.ide_text.specs.declared.program.Program.{Program}
use Rattle.ide_text.specs.declared.program.Statement.TheVariants.{Assign, Skip, At, Goto, Branch, Call, Return}
use Rattle.ide_text.specs.Program.{procedures_of}
use Rattle.ide_graph.specs.Building.{HasNormal}
use Rattle.ide_graph.specs.declared.edge.EdgeData.{EdgeData}
use Rattle.ide_graph.specs.declared.edge.EdgeKind.TheVariants as kind
use Rattle.ide_graph.specs.declared.edge.Effect.{Effect}
use Rattle.ide_graph.specs.declared.edge.Effect.TheVariants.{Nothing}
use Rattle.ide_graph.specs.declared.site.Site.{Site}
use Rattle.ide_graph.specs.declared.site.Site.TheVariants as site
use Rattle.ide_graph.specs.Lists.{Lists}
use Rattle.ide_graph.specs.Numbers.{Spot, start, statement, return_site, exit, start_of, label_from}
use Rattle.ide_graph.specs.ProgramEdges.{Gives, Goes, IsNormal, IsPlain, IsSiteOf, Stands, edge_of}
use Rattle.ide_graph.proofs.ListsLemmas.{lists_same, lists_two}
use Rattle.ide_graph.proofs.ProgramLemmas.{same_spot, same_owner}

module _ (p : Program) where
  gives_once : (q : Procedure) (s t : ℕ) (e : Expression) (a b : Effect) → s ≡ t → Gives p q s e a → Gives p q t e b → a ≡ b
  gives_once q s t (expression.Number k) a b same g h = cc
  gives_once q s t (expression.Copy y) a b same g h = let source : g.0 ≡ h.0 = same_Some g.0 h.0 (sym g.1 ∙ h.1) in cc (g.2, h.2)
  gives_once q s t (expression.Sum y k) a b same g h = let source : g.0 ≡ h.0 = same_Some g.0 h.0 (sym g.1 ∙ h.1) in cc (g.2, h.2)
  gives_once q s t (expression.Difference y k) a b same g h = let source : g.0 ≡ h.0 = same_Some g.0 h.0 (sym g.1 ∙ h.1) in cc (g.2, h.2)
  gives_once q s t expression.Unknown a b same g h = cc
  gives_once q s t (expression.Mix y z) a b same g h =
      let first : g.0 ≡ h.0 = same_Some g.0 h.0 (sym g.2 ∙ h.2) in
      let second : g.1 ≡ h.1 = same_Some g.1 h.1 (sym g.3 ∙ h.3) in
      cc (g.4, h.4)

  -- but for a branch a normal edge goes one way out of a node
  goes_once : (n i : ℕ) (q : Procedure) (spot : Spot) → ((l : List ℕ) → spot ≢ statement (Branch l)) → (e f : ℕ) (a b : Effect) → Goes p n i q spot e a → Goes p n i q spot f b → (f ≡ e) × (b ≡ a)
  goes_once n i q start one e f a b g h = (h.0 ∙ sym g.0, h.1 ∙ sym g.1)
  goes_once n i q (statement (Assign x r)) one e f a b g h =
      let target : h.1 ≡ g.1 = same_Some h.1 g.1 (sym h.2 ∙ g.2) in
      (h.0 ∙ sym g.0, gives_once q h.1 g.1 r b a target h.3 g.3)
  goes_once n i q (statement Skip) one e f a b g h = (h.0 ∙ sym g.0, h.1 ∙ sym g.1)
  goes_once n i q (statement (At l)) one e f a b g h = (h.0 ∙ sym g.0, h.1 ∙ sym g.1)
  goes_once n i q (statement (Goto l)) one e f a b g h = (same_Some f e (sym h.0 ∙ g.0), h.1 ∙ sym g.1)
  goes_once n i q (statement (Branch l)) one e f a b g h = absurd (one l refl)
  goes_once n i q (statement (Call target callees arguments)) one e f a b g h = absurd g
  goes_once n i q (statement (Return None)) one e f a b g h = (h.0 ∙ sym g.0, h.1 ∙ sym g.1)
  goes_once n i q (statement (Return (Some y))) one e f a b g h = let source : h.1 ≡ g.1 = same_Some h.1 g.1 (sym h.2 ∙ g.2) in (h.0 ∙ sym g.0, cc (g.3, h.3))
  goes_once n i q return_site one e f a b g h = (h.0 ∙ sym g.0, h.1 ∙ sym g.1)
  goes_once n i q exit one e f a b g h = absurd g

  -- where a spot stands, its normal edges are those that go out there
  pub normal_goes : (n i : ℕ) (q : Procedure) (spot : Spot) → Stands p n i q spot → (edge : EdgeData) → (normal : IsNormal p n edge) → Goes p n i q spot edge.end normal.effect
  normal_goes n i q spot stands edge normal =
      let same = same_spot p n normal.index i normal.spot spot normal.stands.node stands.node in
      let owner : normal.procedure ≡ q = same_owner p normal.index i normal.procedure q same.0 normal.stands.owner stands.owner in
      subst (λ s. Goes p n i q s edge.end normal.effect) same.1
      (subst (λ r. Goes p n i r normal.spot edge.end normal.effect) owner
      (subst (λ k. Goes p n k normal.procedure normal.spot edge.end normal.effect) same.0 normal.goes))

  goes_normal : (n i : ℕ) (q : Procedure) (spot : Spot) → Stands p n i q spot → (end : ℕ) (effect : Effect) → Goes p n i q spot end effect → (edge : EdgeData) → edge ≡ edge_of p end (kind.Normal effect) → IsNormal p n edge
  goes_normal n i q spot stands end effect goes edge is =
      let ends : end ≡ edge.end = sym (ap (λ (x : EdgeData). x.end) is) in
      record { index = i; procedure = q; spot = spot; effect = effect; stands = stands; goes = subst (λ e. Goes p n i q spot e effect) ends goes; is = is ∙ ap (λ e. edge_of p e (kind.Normal effect)) ends }

  -- a site that has just the normal edges is the node's
  has_normal : (n i : ℕ) (q : Procedure) (spot : Spot) → Stands p n i q spot → IsPlain spot → (P : EdgeData → Type 0) → ((x : EdgeData) → P x → IsNormal p n x) → ((x : EdgeData) → IsNormal p n x → P x) → (s : Site) → HasNormal P s → IsSiteOf p n s
  has_normal n i q spot stands plain P to from (site.Normal edges) has =
      (record { index = i; spot = spot; node = stands.node; plain = plain }, lists_same (λ edge. edge.end) P (IsNormal p n) edges to from has)
  has_normal n i q spot stands plain P to from (site.Call calls along) has = absurd has
  has_normal n i q spot stands plain P to from (site.Exit begin callers) has = absurd has

  pub one_way : (n i : ℕ) (q : Procedure) (spot : Spot) → Stands p n i q spot → IsPlain spot → ((l : List ℕ) → spot ≢ statement (Branch l)) → (end : ℕ) (effect : Effect) → Goes p n i q spot end effect → (s : Site) → HasNormal (λ edge. edge ≡ edge_of p end (kind.Normal effect)) s → IsSiteOf p n s
  one_way n i q spot stands plain one end effect goes s has =
      has_normal n i q spot stands plain (λ edge. edge ≡ edge_of p end (kind.Normal effect)) (goes_normal n i q spot stands end effect goes)
      (λ x normal. let same = goes_once n i q spot one end x.end effect normal.effect goes (normal_goes n i q spot stands x normal) in normal.is ∙ cc (same.0, same.1))
      s has

  pub two_ways : (n i : ℕ) (q : Procedure) (l : List ℕ) (label : ℕ) → Stands p n i q (statement (Branch l)) → label_from (start_of (procedures_of p) i) q l ≡ Some label → (s : Site)
      → HasNormal (λ edge. (edge ≡ edge_of p (n + 1) (kind.Normal Nothing)) ⊎ (edge ≡ edge_of p label (kind.Normal Nothing))) s → IsSiteOf p n s
  two_ways n i q l label stands labelled s has =
      has_normal n i q (statement (Branch l)) stands tt (λ edge. (edge ≡ edge_of p (n + 1) (kind.Normal Nothing)) ⊎ (edge ≡ edge_of p label (kind.Normal Nothing)))
      (λ x two. elim two [
        | inl next ↦ goes_normal n i q (statement (Branch l)) stands (n + 1) Nothing (inl refl, refl) x next
        | inr there ↦ goes_normal n i q (statement (Branch l)) stands label Nothing (inr labelled, refl) x there
      ])
      (λ x normal. let goes = normal_goes n i q (statement (Branch l)) stands x normal in
      elim goes.0 as (λ w. (x ≡ edge_of p (n + 1) (kind.Normal Nothing)) ⊎ (x ≡ edge_of p label (kind.Normal Nothing))) [
        | inl next ↦ inl (normal.is ∙ cc (next, goes.1))
        | inr there ↦ let at : x.end ≡ label = same_Some x.end label (sym there ∙ labelled) in inr (normal.is ∙ cc (at, goes.1))
      ])
      s has

-- the two edges of a branch, the lesser first
pub lesser_first : (p : Program) (next label low high : ℕ) → next ≢ label → low ≡ min next label → high ≡ max next label → (xs : List EdgeData) → xs ≡ edge_of p low (kind.Normal Nothing) ∷ edge_of p high (kind.Normal Nothing) ∷ []
    → Lists (λ edge. (edge ≡ edge_of p next (kind.Normal Nothing)) ⊎ (edge ≡ edge_of p label (kind.Normal Nothing))) (λ edge. edge.end) xs
lesser_first p next label low high apart lower higher xs is =
    let at : ℕ → EdgeData = λ end. edge_of p end (kind.Normal Nothing) in
    let P : EdgeData → Type 0 = λ edge. (edge ≡ at next) ⊎ (edge ≡ at label) in
    elim (cases_lt next label) [
      | inl less ↦
          let first : low ≡ next = omega arith in
          let second : high ≡ label = omega arith in
          rw (is, first, second) (lists_two (λ edge. edge.end) P (at next) (at label) (inl refl) (inr refl) less (λ x h. h))
      | inr more ↦
          let less : label < next = omega arith in
          let first : low ≡ label = omega arith in
          let second : high ≡ next = omega arith in
          rw (is, first, second) (lists_two (λ edge. edge.end) P (at label) (at next) (inr refl) (inl refl) less (λ x h. elim h as (λ w. (x ≡ at label) ⊎ (x ≡ at next)) [ inl a ↦ inr a | inr b ↦ inl b ]))
    ]

-- the same, of an end and an effect that are these
pub plain_site : (p : Program) (n i : ℕ) (q : Procedure) (spot : Spot) → Stands p n i q spot → IsPlain spot → ((l : List ℕ) → spot ≢ statement (Branch l)) → (end : ℕ) (effect : Effect) → Goes p n i q spot end effect
    → (s : Site) (e : ℕ) (f : Effect) → e ≡ end → f ≡ effect → HasNormal (λ edge. edge ≡ edge_of p e (kind.Normal f)) s → IsSiteOf p n s
plain_site p n i q spot stands plain one end effect goes s e f ends does has =
    one_way p n i q spot stands plain one end effect goes s
    (subst (λ x. HasNormal (λ edge. edge ≡ edge_of p end (kind.Normal x)) s) does (subst (λ x. HasNormal (λ edge. edge ≡ edge_of p x (kind.Normal f)) s) ends has))

-- of what a call that may fail returned
pub branch_result : (p : Program) (n i : ℕ) (q : Procedure) (l : List ℕ) (label : ℕ) → Stands p n i q (statement (Branch l)) → label_from (start_of (procedures_of p) i) q l ≡ Some label → {E : Type 0} (r : Result Site E) (a b : ℕ) → a ≡ n + 1 → b ≡ label
    → IfOk r (HasNormal (λ edge. (edge ≡ edge_of p a (kind.Normal Nothing)) ⊎ (edge ≡ edge_of p b (kind.Normal Nothing)))) → IfOk r (IsSiteOf p n)
branch_result p n i q l label stands labelled r a b next there has =
    IfOk-weaker r (HasNormal (λ edge. (edge ≡ edge_of p a (kind.Normal Nothing)) ⊎ (edge ≡ edge_of p b (kind.Normal Nothing)))) (IsSiteOf p n)
    (λ s h. two_ways p n i q l label stands labelled s
    (subst (λ y. HasNormal (λ edge. (edge ≡ edge_of p (n + 1) (kind.Normal Nothing)) ⊎ (edge ≡ edge_of p y (kind.Normal Nothing))) s) there
    (subst (λ x. HasNormal (λ edge. (edge ≡ edge_of p x (kind.Normal Nothing)) ⊎ (edge ≡ edge_of p b (kind.Normal Nothing))) s) next h)))
    has
