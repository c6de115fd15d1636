-- The numbers, angles and kinds of prediction modes.
use Rattle.std.specs.Prelude.{ℕ, ℤ, pos, nat_lt, nat_le, ◌&&◌, Bool, true, false, List, [], ◌∷◌}
use Rattle.av1_blocks.specs.declared.predict.PredictionMode.{PredictionMode}
use Rattle.av1_blocks.specs.declared.predict.PredictionMode.TheVariants.{DC_PRED, V_PRED, H_PRED, D45_PRED, D135_PRED}
use Rattle.av1_blocks.specs.declared.predict.PredictionMode.TheVariants.{D113_PRED, D157_PRED, D203_PRED, D67_PRED}
use Rattle.av1_blocks.specs.declared.predict.PredictionMode.TheVariants.{SMOOTH_PRED, SMOOTH_V_PRED, SMOOTH_H_PRED}
use Rattle.av1_blocks.specs.declared.predict.PredictionMode.TheVariants.{PAETH_PRED, UV_CFL_PRED, NEARESTMV, NEAR0MV}
use Rattle.av1_blocks.specs.declared.predict.PredictionMode.TheVariants.{NEAR1MV, NEAR2MV, GLOBALMV, NEWMV}
use Rattle.av1_blocks.specs.declared.predict.PredictionMode.TheVariants.{NEAREST_NEARESTMV, NEAR_NEAR0MV, NEAR_NEAR1MV}
use Rattle.av1_blocks.specs.declared.predict.PredictionMode.TheVariants.{NEAR_NEAR2MV, NEAREST_NEWMV, NEW_NEARESTMV}
use Rattle.av1_blocks.specs.declared.predict.PredictionMode.TheVariants.{NEAR_NEW0MV, NEAR_NEW1MV, NEAR_NEW2MV}
use Rattle.av1_blocks.specs.declared.predict.PredictionMode.TheVariants.{NEW_NEAR0MV, NEW_NEAR1MV, NEW_NEAR2MV}
use Rattle.av1_blocks.specs.declared.predict.PredictionMode.TheVariants.{GLOBAL_GLOBALMV, NEW_NEWMV}

-- The number of a mode.
abbrev pub mode_number : PredictionMode → ℕ
mode_number DC_PRED = 0
mode_number V_PRED = 1
mode_number H_PRED = 2
mode_number D45_PRED = 3
mode_number D135_PRED = 4
mode_number D113_PRED = 5
mode_number D157_PRED = 6
mode_number D203_PRED = 7
mode_number D67_PRED = 8
mode_number SMOOTH_PRED = 9
mode_number SMOOTH_V_PRED = 10
mode_number SMOOTH_H_PRED = 11
mode_number PAETH_PRED = 12
mode_number UV_CFL_PRED = 13
mode_number NEARESTMV = 14
mode_number NEAR0MV = 15
mode_number NEAR1MV = 16
mode_number NEAR2MV = 17
mode_number GLOBALMV = 18
mode_number NEWMV = 19
mode_number NEAREST_NEARESTMV = 20
mode_number NEAR_NEAR0MV = 21
mode_number NEAR_NEAR1MV = 22
mode_number NEAR_NEAR2MV = 23
mode_number NEAREST_NEWMV = 24
mode_number NEW_NEARESTMV = 25
mode_number NEAR_NEW0MV = 26
mode_number NEAR_NEW1MV = 27
mode_number NEAR_NEW2MV = 28
mode_number NEW_NEAR0MV = 29
mode_number NEW_NEAR1MV = 30
mode_number NEW_NEAR2MV = 31
mode_number GLOBAL_GLOBALMV = 32
mode_number NEW_NEWMV = 33

-- The angle of a directional mode in degrees, and 0 for every other mode.
abbrev pub intra_mode_to_angle : PredictionMode → ℤ
intra_mode_to_angle V_PRED = pos 90
intra_mode_to_angle H_PRED = pos 180
intra_mode_to_angle D45_PRED = pos 45
intra_mode_to_angle D135_PRED = pos 135
intra_mode_to_angle D113_PRED = pos 113
intra_mode_to_angle D157_PRED = pos 157
intra_mode_to_angle D203_PRED = pos 203
intra_mode_to_angle D67_PRED = pos 67
intra_mode_to_angle _ = pos 0

-- The modes that take no reference.
abbrev pub is_intra : PredictionMode → Bool
is_intra mode = nat_lt (mode_number mode) 14

-- The modes that have an angle.
abbrev pub is_directional : PredictionMode → Bool
is_directional mode = nat_le 1 (mode_number mode) && nat_le (mode_number mode) 8

-- The modes that take two references.
abbrev pub is_compound : PredictionMode → Bool
is_compound mode = nat_le 20 (mode_number mode)

-- Chroma from luma.
abbrev pub is_cfl : PredictionMode → Bool
is_cfl UV_CFL_PRED = true
is_cfl _ = false

-- The modes with a vector of a near neighbour, which its place in the list of candidates tells apart.
abbrev pub has_nearmv : PredictionMode → Bool
has_nearmv NEAR0MV = true
has_nearmv NEAR1MV = true
has_nearmv NEAR2MV = true
has_nearmv NEAR_NEAR0MV = true
has_nearmv NEAR_NEAR1MV = true
has_nearmv NEAR_NEAR2MV = true
has_nearmv NEAR_NEW0MV = true
has_nearmv NEAR_NEW1MV = true
has_nearmv NEAR_NEW2MV = true
has_nearmv NEW_NEAR0MV = true
has_nearmv NEW_NEAR1MV = true
has_nearmv NEW_NEAR2MV = true
has_nearmv _ = false

-- The modes with a vector that is coded anew.
abbrev pub has_newmv : PredictionMode → Bool
has_newmv NEWMV = true
has_newmv NEAREST_NEWMV = true
has_newmv NEW_NEARESTMV = true
has_newmv NEAR_NEW0MV = true
has_newmv NEAR_NEW1MV = true
has_newmv NEAR_NEW2MV = true
has_newmv NEW_NEAR0MV = true
has_newmv NEW_NEAR1MV = true
has_newmv NEW_NEAR2MV = true
has_newmv NEW_NEWMV = true
has_newmv _ = false

-- The place of the near vector in the list of candidates.
abbrev pub ref_mv_idx : PredictionMode → ℕ
ref_mv_idx NEAR1MV = 2
ref_mv_idx NEAR2MV = 3
ref_mv_idx NEAR_NEAR1MV = 2
ref_mv_idx NEAR_NEAR2MV = 3
ref_mv_idx _ = 1

-- The intra modes of luma in the order in which they are tried.
abbrev pub tried_intra_modes : List PredictionMode
tried_intra_modes = DC_PRED ∷ H_PRED ∷ V_PRED ∷ SMOOTH_PRED ∷ SMOOTH_H_PRED ∷ SMOOTH_V_PRED ∷ PAETH_PRED ∷ D45_PRED ∷
    D135_PRED ∷ D113_PRED ∷ D157_PRED ∷ D203_PRED ∷ D67_PRED ∷ []

-- The inter mode that is tried if only one is.
abbrev pub tried_inter_modes : List PredictionMode
tried_inter_modes = NEARESTMV ∷ []

-- The modes with two references in the order in which they are tried.
abbrev pub tried_compound_modes : List PredictionMode
tried_compound_modes = GLOBAL_GLOBALMV ∷ NEAREST_NEARESTMV ∷ NEW_NEWMV ∷ NEAREST_NEWMV ∷ NEW_NEARESTMV ∷ NEAR_NEAR0MV ∷
    NEAR_NEAR1MV ∷ NEAR_NEAR2MV ∷ []
