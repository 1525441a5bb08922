-- The analyses of the program, as contracts of stores see them.
use Rattle.std.specs.Prelude.{true}
use Rattle.ide_instances.specs.ConstFn.{const_edge, is_proper_fn}
use Rattle.ide_instances.specs.ConstFnForm.{const_fn_form}
use Rattle.ide_instances.specs.ConstValue.{const_algebra}
use Rattle.ide_instances.specs.Received.{copy_targets, shift_targets, uninit_targets}
use Rattle.ide_instances.specs.UninitFn.{uninit_edge}
use Rattle.ide_instances.specs.UninitForm.{uninit_fn_form}
use Rattle.ide_instances.specs.UninitValue.{uninit_algebra}
use Rattle.ide_instances.specs.contracts.const_fn.ConstFnPartialEq.TheImpl.{ghosts as const_equality}
use Rattle.ide_instances.specs.contracts.uninit_fn.UninitFnPartialEq.TheImpl.{ghosts as uninit_equality}
use Rattle.ide_instances.specs.declared.const_fn.ConstFn.{ConstFn}
use Rattle.ide_instances.specs.declared.const_value.ConstValue.{ConstValue}
use Rattle.ide_instances.specs.declared.uninit_fn.UninitFn.{UninitFn}
use Rattle.ide_instances.specs.declared.uninit_value.UninitValue.{UninitValue}
use Rattle.ide_problem.specs.Flow.{Targets}
use Rattle.ide_store.specs.Table.{Analysis}

abbrev pub uninit_analysis : Analysis UninitFn UninitValue
uninit_analysis = record {
  lattice = uninit_algebra;
  functions = uninit_edge;
  targets = uninit_targets;
  same = uninit_equality.eq;
  proper = λ f. true;
  form = uninit_fn_form;
}

-- one of constants, which differ in what their flow does
abbrev pub constants_by : Targets ConstFn → Analysis ConstFn ConstValue
constants_by targets = record {
  lattice = const_algebra;
  functions = const_edge;
  targets = targets;
  same = const_equality.eq;
  proper = is_proper_fn;
  form = const_fn_form;
}

abbrev pub copy_analysis : Analysis ConstFn ConstValue
copy_analysis = constants_by copy_targets

abbrev pub shift_analysis : Analysis ConstFn ConstValue
shift_analysis = constants_by shift_targets
