-- That every run of a store on one disk recovers, and answers with best values.
use Rattle.std.specs.Prelude.{ℕ, Bool, List}
use Rattle.ide_batch.specs.Items.{Functions, functions_by}
use Rattle.ide_journal.specs.Format.{Head}
use Rattle.ide_lattice.specs.Algebra.{EdgeAlgebra}
use Rattle.ide_lattice.specs.Algebra.{LatticeAlgebra}
use Rattle.ide_problem.specs.Flow.{Targets}
use Rattle.ide_store.specs.Hands.{EveryRunAnswers, RunsAnswer}
use Rattle.ide_store.specs.Machine.{machine}
use Rattle.ide_store.specs.OneDisk.{one_disk}
use Rattle.ide_store.specs.Places.{Place}
use Rattle.ide_store.specs.Table.{Analysis, IsStart, StoreWorld, forms_of, rules_at, store_at}
use Rattle.ide_store.specs.Versioned.{one_version}
use Rattle.ide_store.specs.World.{EveryRunRecovers}

-- of whatever version and for whatever instance it was made
abbrev pub OneDiskRecovers : {F L : Type 0} → EdgeAlgebra F L → (F → F → Bool) → Functions F → Type 0
OneDiskRecovers functions same forms = (head : Head) → EveryRunRecovers (one_version head.version (one_disk head)) (machine functions same forms)

-- of whatever version, for whatever instance, and with functions of these forms
abbrev pub OneDiskAnswers : {F L : Type 0} → LatticeAlgebra L → EdgeAlgebra F L → Targets F → (F → F → Bool) → (F → Bool) → (F → List ℕ) → Type 0
OneDiskAnswers {F} A B targets same proper form =
    let forms : Functions F = functions_by proper form same B.all_top in
    (head : Head) → EveryRunAnswers A B targets same forms (machine B same forms) (one_version head.version (one_disk head))

-- wherever the store of the analysis stands, and wherever a run may begin there
abbrev pub PlaceAnswers : {F L : Type 0} → Analysis F L → Place → Type 0
PlaceAnswers a place = (start : StoreWorld a place) → IsStart a place start
    → RunsAnswer a.lattice a.functions a.targets a.same (forms_of a) (rules_at a place) (store_at a place) start
