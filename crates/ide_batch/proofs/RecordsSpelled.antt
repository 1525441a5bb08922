-- Of the items of a batch: what is known once all are put, and that none spell it where one is not.
use Rattle.std.specs.Prelude.{◌≡◌, ℕ, zero, suc, ◌+◌, ◌≤◌, ◌<◌, List, [], ◌∷◌, ◌++◌, Option, Some, None, Ok, drop, get_or, length, map, take}
use Rattle.std.specs.List.Sorted.{IsStrictlySortedBy}
use Rattle.std.proofs.Common.{ap, sym, subst, ◌∙◌, arith, append_assoc, append-nil}
use Rattle.std.proofs.lemmas.List.{take-append-drop}
use Rattle.std.proofs.Math.Seq.{drop-cons}
use Rattle.ide_journal.specs.declared.record.RawRecord.{RawRecord}
use Rattle.ide_journal.specs.declared.version.Version.{Version}
use Rattle.ide_journal.specs.declared.version.Version.TheVariants.{One, Two}
use Rattle.ide_batch.specs.Bodies.{AreSpelled, IsRawOf}
use Rattle.ide_batch.specs.Forms.{IfNotRead, IfRead}
use Rattle.ide_batch.specs.Items.{AreWritten, Functions, Item}
use Rattle.ide_batch.specs.Records.{Batch}
use Rattle.ide_batch.specs.Writing.{Holds, IsSpelledBatch, PutsItem, StopsAtItem, WriterData}
use Rattle.ide_wire.specs.KeyOrder.{key_cmp}
use Rattle.ide_batch.proofs.Grouping.{groups_few}
use Rattle.ide_batch.proofs.OneMore.{rose}

module _ {F : Type 0} (functions : Functions F) where
  some_spelled : (version : Version) (items : List (Item F)) (body : List ℕ) → AreSpelled functions version items body → 1 ≤ length items
  some_spelled One items body is = is.written.some
  some_spelled Two items body is = omega (arith, is.are.some, groups_few is.groups is.are.each, ap length is.items_are)

  pub batch_made : (version : Version) (items front : List (Item F)) (writer : WriterData) (raw : Option RawRecord) → front ≡ items
      → Holds functions version front writer → IsSpelledBatch functions writer raw
      → IfRead {E = ℕ} (Ok raw) (IsRawOf functions version (Batch items)) × IfRead {E = ℕ} (Ok raw) (λ r. AreWritten functions items)
      × IfNotRead {E = ℕ} (Ok raw) (¬ (AreWritten functions items))
  batch_made version items front writer raw all holds batch = made raw (subst (λ xs. Holds functions version xs writer) all holds) batch
    where
      made : (raw : Option RawRecord) → Holds functions version items writer → IsSpelledBatch functions writer raw
          → IfRead {E = ℕ} (Ok raw) (IsRawOf functions version (Batch items)) × IfRead {E = ℕ} (Ok raw) (λ r. AreWritten functions items)
          × IfNotRead {E = ℕ} (Ok raw) (¬ (AreWritten functions items))
      made None holds batch = (tt, tt, λ written. let none : length items ≡ 0 = ap length (batch version items holds) in omega (arith, none, written.some))
      made (Some raw) holds batch =
          let is = batch version items holds in
          (is, holds.written (some_spelled version items raw.body.items is.entry.body), tt)

  parts_at : (items : List (Item F)) (k : ℕ) (item : Item F) → k < length items → item ≡ get_or items k item
      → items ≡ take k items ++ item ∷ drop (suc k) items
  parts_at items k item within is =
      sym (take-append-drop k items) ∙ ap (λ xs. take k items ++ xs) (drop-cons items k item within ∙ ap (λ x. x ∷ drop (suc k) items) (sym is))

  one_longer : (items : List (Item F)) (k : ℕ) (item : Item F) → k < length items → item ≡ get_or items k item
      → take k items ++ item ∷ [] ≡ take (suc k) items
  one_longer [] k item within is = absurd (omega (arith, within))
  one_longer (x ∷ xs) zero item within is = ap (λ y. y ∷ []) is
  one_longer (x ∷ xs) (suc k) item within is = ap (λ ys. x ∷ ys) (one_longer xs k item (omega (arith, within)) is)

  -- of items that ascend one more is put behind those before it
  pub batch_more : (version : Version) (items : List (Item F)) (k : ℕ) (item : Item F) (old new : WriterData) → k < length items → item ≡ get_or items k item
      → IsStrictlySortedBy key_cmp (map (λ item. item.0) items) → Holds functions version (take k items) old → PutsItem functions version item old new
      → Holds functions version (take (k + 1) items) new
  batch_more version items k item old new within is ascend holds puts =
      let next : suc k ≡ k + 1 = omega arith in
      subst (λ xs. Holds functions version xs new) (one_longer items k item within is ∙ ap (λ n. take n items) next)
      (puts (take k items) holds
      (rose (take k items) item (drop (suc k) items) (subst (λ xs. IsStrictlySortedBy key_cmp (map (λ item. item.0) xs)) (parts_at items k item within is) ascend)))

  pub batch_stops : (version : Version) (items : List (Item F)) (k : ℕ) (item : Item F) (writer : WriterData) → k < length items → item ≡ get_or items k item
      → Holds functions version (take k items) writer → StopsAtItem functions item writer → ¬ (AreWritten functions items)
  batch_stops version items k item writer within is holds stops written =
      stops version (take k items) (drop (suc k) items) holds (subst (AreWritten functions) (parts_at items k item within is) written)

  module _ (version : Version) (items taken rest : List (Item F)) (parts : taken ++ rest ≡ items) where
    split : (item : Item F) (after : List (Item F)) → rest ≡ item ∷ after → items ≡ taken ++ item ∷ after
    split item after is = sym parts ∙ ap (λ xs. taken ++ xs) is

    -- the same of items that come one by one
    pub coming_more : (item : Item F) (after : List (Item F)) (old new : WriterData) → rest ≡ item ∷ after
        → IsStrictlySortedBy key_cmp (map (λ item. item.0) items) → Holds functions version taken old → PutsItem functions version item old new
        → (front : List (Item F)) × (front ++ after ≡ items) × Holds functions version front new
    coming_more item after old new is ascend holds puts = (
      taken ++ item ∷ [],
      append_assoc taken (item ∷ []) after ∙ sym (split item after is),
      puts taken holds (rose taken item after (subst (λ xs. IsStrictlySortedBy key_cmp (map (λ item. item.0) xs)) (split item after is) ascend)),
    )

    pub coming_stops : (item : Item F) (after : List (Item F)) (writer : WriterData) → rest ≡ item ∷ after → Holds functions version taken writer
        → StopsAtItem functions item writer → ¬ (AreWritten functions items)
    coming_stops item after writer is holds stops written =
        stops version taken after holds (subst (AreWritten functions) (split item after is) written)

    pub all_came : rest ≡ [] → taken ≡ items
    all_came none = sym (append-nil taken) ∙ ap (λ xs. taken ++ xs) (sym none) ∙ parts
