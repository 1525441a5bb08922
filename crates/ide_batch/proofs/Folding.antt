-- A batch that tells how an image changed, folded over the image of before, key by key.
use Rattle.std.specs.Prelude.{◌≡◌, Bool, Option, Some, None, unwrap_or}
use Rattle.ide_wire.specs.declared.key.Key.{Key}
use Rattle.ide_batch.specs.Fold.{BatchesLead, SaysChange, image_entry, named}

module _ {F : Type 0} where
  said : (entry : Option (Option F × Bool)) (before now : Option F × Bool) → SaysChange entry before now → unwrap_or entry before ≡ now
  said None before now same = same
  said (Some entry) before now change = change.0

  pub lead : BatchesLead F
  lead items before now program roots batch =
      let entries : (key : Key) → unwrap_or (named items key) (image_entry before key) ≡ image_entry now key =
      λ key. said (named items key) (image_entry before key) (image_entry now key) (batch key) in
      λ i. record { program = program i; roots = roots i; get = λ key. (entries key i).0; pending = λ key. (entries key i).1 }
