-- Records that are all alike: one more of them, and how many a file holds.
use Rattle.std.proofs.Common.{◌≡◌, ℕ, ◌+◌, ◌-◌, ◌≤◌, List, [], ◌∷◌, ◌++◌, length, replicate, take, ap, sym, subst, ◌∙◌, arith}
use Rattle.std.proofs.Math.Seq.{take-nil}
use Rattle.std.proofs.lemmas.List.{length-replicate, replicate-append-replicate}
use Rattle.ide_disk.specs.declared.disk.Disk.{Ghosts}
use Rattle.ide_journal.specs.Format.{Entry, Head, Holds, zeros}
use Rattle.ide_journal.specs.Laws.{HoldsOneList}
use Rattle.ide_journal.specs.Lists.{IsAtRest}
use Rattle.ide_journal.specs.declared.journal.Journal.{Journal}
use Rattle.ide_bench.specs.Records.{alike}

-- what an empty vector is filled up with
pub zeros_of : (size : ℕ) (old new : List ℕ) (had : ℕ) → old ≡ [] → had ≡ 0 → new ≡ take size old ++ replicate (size - had) 0 → new ≡ zeros size
unfolding zeros
zeros_of size old new had none nothing filled =
    let all : size - had ≡ size = omega (arith, nothing) in
    filled ∙ ap (λ xs. take size xs ++ replicate (size - had) 0) none ∙ ap (λ xs. xs ++ replicate (size - had) 0) (take-nil size) ∙ ap (λ n. replicate n 0) all

pub length_zeros : (size : ℕ) → length (zeros size) ≡ size
unfolding zeros
length_zeros size = length-replicate size 0

pub one_more : (kind size count : ℕ) → alike kind size (count + 1) ≡ alike kind size count ++ (kind, zeros size) ∷ []
one_more kind size count = sym (replicate-append-replicate count 1 (kind, zeros size))

-- a journal at rest holds its records, and a file holds one list
pub same_count : {D : Type 0} (G : Ghosts D) (one : HoldsOneList) (head told : Head) (kind size count : ℕ) (journal : Journal D G) (records : List Entry)
    → IsAtRest head (alike kind size count) journal → Holds told records (G.state journal.disk).now → length records ≡ count
same_count G one head told kind size count journal records rest held =
    ap length (sym ((one head told (alike kind size count) records (G.state journal.disk).now holds held).1)) ∙ length-replicate count (kind, zeros size)
  where
    few : length (alike kind size count) ≤ 4294967295
    few = subst (λ n. n ≤ 4294967295) rest.next journal.numbered

    holds : Holds head (alike kind size count) (G.state journal.disk).now
    holds = record { pages = rest.pages; rest = []; whole = rest.whole; few = few; split = ap (λ s. s.now) rest.disk }
