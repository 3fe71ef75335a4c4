-- Values that are made only when they are needed (src/sources.rt).
use Rattle.capnp_frame.specs.declared.error.ErrorKind.{ErrorKind}
use Rattle.capnp_layout.specs.Prelude.{Trees}

-- a value has the trees that its source declares, and fails with the kinds that its source declares
pub record IsAsDeclared (has_tree told : Trees → Type 0) (fails declared_reason : ErrorKind → Type 0) : Type 0 where
  pub trees_are : (trees : Trees) → told trees → has_tree trees
  pub trees_declared : (trees : Trees) → has_tree trees → told trees
  pub reasons_are : (kind : ErrorKind) → declared_reason kind → fails kind
  pub reasons_declared : (kind : ErrorKind) → fails kind → declared_reason kind
