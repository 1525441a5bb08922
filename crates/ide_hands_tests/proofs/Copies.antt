-- Constants through copies, as contracts of stores see them.
use Rattle.ide_instances.specs.ConstFn.{const_edge, is_proper_fn}
use Rattle.ide_instances.specs.ConstFnForm.{const_fn_form}
use Rattle.ide_instances.specs.ConstValue.{const_algebra}
use Rattle.ide_instances.specs.Received.{copy_targets}
use Rattle.ide_instances.specs.contracts.const_fn.ConstFnPartialEq.TheImpl.{ghosts as const_equality}
use Rattle.ide_instances.specs.declared.const_fn.ConstFn.{ConstFn}
use Rattle.ide_instances.specs.declared.const_value.ConstValue.{ConstValue}
use Rattle.ide_store.specs.Table.{Analysis}

abbrev pub copies : Analysis ConstFn ConstValue
copies = record {
  lattice = const_algebra;
  functions = const_edge;
  targets = copy_targets;
  same = const_equality.eq;
  proper = is_proper_fn;
  form = const_fn_form;
}
