-- The analyses of the program, as contracts of stores see them.
use Rattle.std.specs.Prelude.{ℕ, true}
use Rattle.ide_instances.specs.ConstFn.{const_edge, is_proper_fn}
use Rattle.ide_instances.specs.ConstFnForm.{const_fn_form}
use Rattle.ide_instances.specs.ConstValue.{const_algebra}
use Rattle.ide_instances.specs.Received.{copy_targets, shift_targets, uninit_targets}
use Rattle.ide_instances.specs.UninitFn.{uninit_edge}
use Rattle.ide_instances.specs.UninitForm.{uninit_fn_form}
use Rattle.ide_instances.specs.UninitValue.{uninit_algebra}
use Rattle.ide_instances.specs.contracts.const_fn.ConstFnPartialEq.TheImpl.{ghosts as const_equality}
use Rattle.ide_instances.specs.contracts.uninit_fn.UninitFnPartialEq.TheImpl.{ghosts as uninit_equality}
use Rattle.ide_instances.specs.declared.const_fn.ConstFn.{ConstFn}
use Rattle.ide_instances.specs.declared.const_value.ConstValue.{ConstValue}
use Rattle.ide_instances.specs.declared.uninit_fn.UninitFn.{UninitFn}
use Rattle.ide_instances.specs.declared.uninit_value.UninitValue.{UninitValue}
use Rattle.ide_store.specs.Table.{Analysis}
use Rattle.ide_words.specs.declared.words.Instance.{Instance}
use Rattle.ide_words.specs.declared.words.Instance.TheVariants.{Uninit, Copy, Shift}

-- variables that may be read before they are written
abbrev pub uninit : Analysis UninitFn UninitValue
uninit = record {
  lattice = uninit_algebra;
  functions = uninit_edge;
  targets = uninit_targets;
  same = uninit_equality.eq;
  proper = λ f. true;
  form = uninit_fn_form;
}

-- constants through copies
abbrev pub copies : Analysis ConstFn ConstValue
copies = record {
  lattice = const_algebra;
  functions = const_edge;
  targets = copy_targets;
  same = const_equality.eq;
  proper = is_proper_fn;
  form = const_fn_form;
}

-- and through sums with numbers
abbrev pub shifts : Analysis ConstFn ConstValue
shifts = record {
  lattice = const_algebra;
  functions = const_edge;
  targets = shift_targets;
  same = const_equality.eq;
  proper = is_proper_fn;
  form = const_fn_form;
}

-- the tag of the stores of an analysis
abbrev pub tag_of : Instance → ℕ
tag_of Uninit = 1
tag_of Copy = 2
tag_of Shift = 3
