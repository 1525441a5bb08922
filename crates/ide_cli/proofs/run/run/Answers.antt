use Rattle.std.proofs.Common.{◌≡◌, ◌∙◌, ℕ, List, [], Ok, Err, Result, ap, arith, map, refl, subst, sym}
use Rattle.std.specs.Borrow.{Bor}
use Rattle.std.specs.Prelude.{IsErr, OnOk}
use Rattle.std.specs.Global.{Vec}
use Rattle.clap.specs.Walk.{Text}
use Rattle.ide_words.specs.Line.{IsOfLine}
use Rattle.ide_words.specs.declared.words.Instance.{Instance}
use Rattle.ide_words.specs.declared.words.Words.{Words}
use Rattle.ide_words.specs.declared.words.StoreCommand.{StoreCommand}
use Rattle.ide_words.specs.declared.words.StoreCommand.TheVariants.{Dump}
use Rattle.ide_words.specs.declared.words.Words.TheVariants.{On, Once}
use Rattle.ide_cli.specs.Dump.{IsDump}
use Rattle.ide_cli.specs.Ended.{IsAnswer, answered, cut_off}
use Rattle.ide_cli.specs.Printed.{AppendsAnswer, IsPrinted, appended, dumped, shown}
use Rattle.ide_cli.specs.Stores.{DumpsOver, OpenStore}
use Rattle.ide_cli.proofs.run.run.Goals as goal

-- what was appended to an empty list is an answer of the line
is_answer : (line : List Text) (words : Words) (before after : Vec ℕ) (text : List ℕ) → IsOfLine line words → before.items ≡ []
    → AppendsAnswer words before after → text ≡ after.items → IsAnswer line text
is_answer line words before after text read empty answers is = record {
  words = words;
  read = read;
  printed = appended before after empty answers (sym is);
}

pub returns-in-Ok-answer-clause-answered : goal.returns-in-Ok-answer-clause-answered
returns-in-Ok-answer-clause-answered g c =
    let line = map g.S.AsStr.text c.args.line.now in
    let text = c.as_slice.result.now in
    λ done. answered text
    (is_answer line c.in-Ok.words c.new-text.result c.answer.new.out text c.in-Ok.ensures c.new-text.ensures.items c.in-Ok-answer.ensures c.as_slice.ensures.value)
    (c.print.ensures.done done)

pub returns-in-Ok-answer-clause-refused : goal.returns-in-Ok-answer-clause-refused
returns-in-Ok-answer-clause-refused g c =
    let line = map g.S.AsStr.text c.args.line.now in
    let text = c.as_slice.result.now in
    λ failed. cut_off text
    (is_answer line c.in-Ok.words c.new-text.result c.answer.new.out text c.in-Ok.ensures c.new-text.ensures.items c.in-Ok-answer.ensures c.as_slice.ensures.value)
    refl

-- and so is the dump of some text, where the line asks for that
dump_answer : (line : List Text) (words : Words) (instance : Instance) (file procedure : Bor (List ℕ)) (workers : ℕ) (text dump : List ℕ) → IsOfLine line words
    → words ≡ Once instance file procedure workers → IsDump instance text procedure.now dump → IsAnswer line dump
dump_answer line words instance file procedure workers text dump read is solved = record {
  words = words;
  read = read;
  printed = subst (λ w. IsPrinted w dump) (sym is) (dumped text dump solved);
}

-- a status of 0 is that of an output that did not fail
where-done : {T E : Type 0} (end : Result T E) (status : ℕ) (P : Type 0) → (IsErr end → status ≡ 1) → status ≡ 0 → OnOk end P → P
where-done (Ok x) status P failed done written = written
where-done (Err e) status P failed done written = let one : status ≡ 1 = failed refl in absurd (omega (arith, one, done))

pub returns-in-Ok-once-clause-answered : goal.returns-in-Ok-once-clause-answered
returns-in-Ok-once-clause-answered g c =
    let line = map g.S.AsStr.text c.args.line.now in
    let is = c.in-Ok-once.ensures.written in
    λ done. answered is.1.dump
    (dump_answer line c.in-Ok.words c.in-Once.instance c.in-Once.file c.in-Once.procedure c.in-Once.workers is.0 is.1.dump c.in-Ok.ensures c.in-Once.is is.1.is)
    (where-done c.in-Ok-once.written c.status_of.result _ c.status_of.ensures.failed done is.1.written)

pub returns-in-Ok-once-clause-refused : goal.returns-in-Ok-once-clause-refused
returns-in-Ok-once-clause-refused g c =
    let line = map g.S.AsStr.text c.args.line.now in
    let is = c.in-Ok-once.ensures.written in
    λ failed. cut_off is.1.dump
    (dump_answer line c.in-Ok.words c.in-Once.instance c.in-Once.file c.in-Once.procedure c.in-Once.workers is.0 is.1.dump c.in-Ok.ensures c.in-Once.is is.1.is)
    refl

-- the words are those of a dump where their command is
asks-dump : {words : Words} {name : Bor (List ℕ)} {command : StoreCommand} → words ≡ On name command → command ≡ Dump → words ≡ On name Dump
asks-dump {words} {name} is dump = is ∙ ap (On name) dump

-- and so is that of some store, where it asks for that
store_answer : (line : List Text) (words : Words) (name : Bor (List ℕ)) (store : OpenStore) (dump : List ℕ) → IsOfLine line words
    → words ≡ On name Dump → DumpsOver store dump → IsAnswer line dump
store_answer line words name store dump read is shows = record {
  words = words;
  read = read;
  printed = subst (λ w. IsPrinted w dump) (sym is) (shown store dump shows);
}

pub returns-in-Ok-dump-clause-answered : goal.returns-in-Ok-dump-clause-answered
returns-in-Ok-dump-clause-answered g c =
    let line = map g.S.AsStr.text c.args.line.now in
    let is = c.in-Ok-dump.ensures.written in
    λ done. answered is.1.text (store_answer line c.in-Ok.words c.in-On-default-Dump.store is.0 is.1.text c.in-Ok.ensures (asks-dump c.in-On-default-Dump.is (rw c.in-On-default-Dump.is at c.in-On-default-Dump.command-is)) is.1.is)
    (where-done c.in-Ok-dump.written c.status_of-in-Ok-dump.result _ c.status_of-in-Ok-dump.ensures.failed done is.1.written)

pub returns-in-Ok-dump-clause-refused : goal.returns-in-Ok-dump-clause-refused
returns-in-Ok-dump-clause-refused g c =
    let line = map g.S.AsStr.text c.args.line.now in
    let is = c.in-Ok-dump.ensures.written in
    λ failed. cut_off is.1.text (store_answer line c.in-Ok.words c.in-On-default-Dump.store is.0 is.1.text c.in-Ok.ensures (asks-dump c.in-On-default-Dump.is (rw c.in-On-default-Dump.is at c.in-On-default-Dump.command-is)) is.1.is) refl
