use Rattle.std.proofs.Common.{true≢false, ◌∙◌, sym}
use Rattle.ide_text.proofs.StatementLemmas.{least_label, least_variable, least_unknown_label, least_procedure, least_count, least_list, no_fault}
use Rattle.ide_text.proofs.scope.Scope.check.Goals as goal

pub returns-then-repeats_label : goal.returns-then-repeats_label
returns-then-repeats_label c = least_label _ _ _ _ _ (c.repeats_label.ensures.0 c.if-repeats_label.true)

pub returns-then-not-knows_variables : goal.returns-then-not-knows_variables
returns-then-not-knows_variables c =
    least_variable _ _ _ _ _ (λ again. true≢false (sym (c.repeats_label.ensures.1 again) ∙ c.if-repeats_label.false)) (sym c.knows_variables.ensures ∙ cc)

pub returns-then-not-knows_labels : goal.returns-then-not-knows_labels
returns-then-not-knows_labels c =
    least_unknown_label _ _ _ _ _ (λ again. true≢false (sym (c.repeats_label.ensures.1 again) ∙ c.if-repeats_label.false)) (sym c.knows_variables.ensures ∙ cc) (sym c.knows_labels.ensures ∙ cc)

pub returns-then-not-knows_callees : goal.returns-then-not-knows_callees
returns-then-not-knows_callees c =
    least_procedure _ _ _ _ _ (λ again. true≢false (sym (c.repeats_label.ensures.1 again) ∙ c.if-repeats_label.false)) (sym c.knows_variables.ensures ∙ cc) (sym c.knows_labels.ensures ∙ cc) (sym c.knows_callees.ensures ∙ cc)

pub returns-then-not-counts_arguments : goal.returns-then-not-counts_arguments
returns-then-not-counts_arguments c =
    least_count _ _ _ _ _ (λ again. true≢false (sym (c.repeats_label.ensures.1 again) ∙ c.if-repeats_label.false)) (sym c.knows_variables.ensures ∙ cc) (sym c.knows_labels.ensures ∙ cc) (sym c.knows_callees.ensures ∙ cc) (sym c.counts_arguments.ensures ∙ cc)

pub returns-then-lists_wrong_callees : goal.returns-then-lists_wrong_callees
returns-then-lists_wrong_callees c =
    least_list _ _ _ _ _ (λ again. true≢false (sym (c.repeats_label.ensures.1 again) ∙ c.if-repeats_label.false)) (sym c.knows_variables.ensures ∙ cc) (sym c.knows_labels.ensures ∙ cc) (sym c.knows_callees.ensures ∙ cc) (sym c.counts_arguments.ensures ∙ cc) (c.lists_wrong_callees.ensures.0 c.if-lists_wrong_callees.true)

pub returns : goal.returns
returns c =
    no_fault _ _ _ _ _ (λ again. true≢false (sym (c.repeats_label.ensures.1 again) ∙ c.if-repeats_label.false)) (sym c.knows_variables.ensures ∙ cc) (sym c.knows_labels.ensures ∙ cc) (sym c.knows_callees.ensures ∙ cc) (sym c.counts_arguments.ensures ∙ cc)
    (λ wrong. true≢false (sym (c.lists_wrong_callees.ensures.1 wrong) ∙ c.if-lists_wrong_callees.false))
