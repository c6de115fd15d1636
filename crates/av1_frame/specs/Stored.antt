-- A plane as clauses see it.
use Rattle.std.specs.Prelude.{List}
use Rattle.av1_frame.specs.declared.plane.PlaneConfig.{PlaneConfig}

-- the samples of a plane, one row after another, and its settings
pub record Plane (T : Type 0) : Type 0 where
  pub samples : List T
  pub plane_cfg : PlaneConfig
