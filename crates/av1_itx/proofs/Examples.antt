-- What rav1e's own transforms answer, computed from the definitions. At a range of 20 sums wrap at 32 bits.
use Rattle.std.specs.Prelude.{◌≡◌, ◌+ℤ◌, ℕ, pos, negsuc, ℤ, List, [], ◌∷◌, refl, map}
use Rattle.std.specs.Int.{int_wrap}
use Rattle.av1_blocks.specs.declared.transform.TxSize.TheVariants.{TX_4X4}
use Rattle.av1_blocks.specs.declared.transform.TxType.TheVariants.{DCT_DCT}
use Rattle.av1_dct.specs.Arithmetic.{clamp_value}
use Rattle.av1_dct.specs.Operations.{half_btf_with}
use Rattle.av1_dct.specs.Cosine.{brev, cos128, cosine_with, odd_half_with, group_sum_with, inner_turn_with, mirror_sum_with, outer_turn_with, rounds_with}
use Rattle.av1_frame.specs.Arithmetic.{clip}
use Rattle.av1_itx.specs.declared.kinds.TxType1D.TheVariants.{ADST, FLIPADST, IDENTITY, EXACT_IDENTITY, WHT}
use Rattle.av1_itx.specs.Adst.{adst_with, adst4_with, weighted_with, adst_more_with, adst_in, adst_start_with, turned_with, adst_rounds_with, adst_turn_with}
use Rattle.av1_itx.specs.Adst.{adst_sum_with, adst_out_with, out_place}
use Rattle.av1_itx.specs.Identity.{identity_with, scaled_with}
use Rattle.av1_itx.specs.Walsh.{walsh_with}
use Rattle.av1_itx.specs.Networks.{network, network_with}
use Rattle.av1_itx.specs.Residue.{residue, residue_by, transformed_column, column_network, transformed_row, row_input, row_value}

sine4_range16 : network ADST 16 1 (pos 7895 ∷ negsuc 29601 ∷ pos 20106 ∷ pos 25234 ∷ []) ≡ pos 12337 ∷ negsuc 49296 ∷ pos 10632 ∷ pos 35543 ∷ []
unfolding network_with adst_with adst4_with weighted_with adst_more_with adst_in adst_start_with turned_with adst_rounds_with adst_turn_with adst_sum_with
    adst_out_with out_place identity_with scaled_with walsh_with brev cos128 half_btf_with clamp_value int_wrap
sine4_range16 = refl

sine4_range20 : network ADST 20 1 (pos 524287 ∷ negsuc 524287 ∷ negsuc 524287 ∷ pos 524287 ∷ []) ≡ negsuc 428032 ∷ negsuc 428031 ∷ pos 235518 ∷ pos 428031 ∷ []
unfolding network_with adst_with adst4_with weighted_with adst_more_with adst_in adst_start_with turned_with adst_rounds_with adst_turn_with adst_sum_with
    adst_out_with out_place identity_with scaled_with walsh_with brev cos128 half_btf_with clamp_value int_wrap
sine4_range20 = refl

sine8_range16 : network ADST 16 2 (negsuc 109 ∷ negsuc 2994 ∷ pos 1 ∷ pos 4577 ∷ negsuc 1391 ∷ pos 1223 ∷ pos 1 ∷ pos 1 ∷ []) ≡ pos 2028 ∷ pos 910 ∷
    negsuc 3971 ∷ negsuc 5958 ∷ negsuc 3687 ∷ pos 4204 ∷ pos 6396 ∷ negsuc 2239 ∷ []
unfolding network_with adst_with adst4_with weighted_with adst_more_with adst_in adst_start_with turned_with adst_rounds_with adst_turn_with adst_sum_with
    adst_out_with out_place identity_with scaled_with walsh_with brev cos128 half_btf_with clamp_value int_wrap
sine8_range16 = refl

sine8_range20 : network ADST 20 2 (negsuc 179 ∷ pos 266 ∷ negsuc 385 ∷ pos 442 ∷ pos 436 ∷ pos 248 ∷ pos 50 ∷ pos 81 ∷ []) ≡ pos 842 ∷ pos 231 ∷ negsuc 724 ∷
    negsuc 51 ∷ pos 681 ∷ pos 263 ∷ negsuc 322 ∷ negsuc 948 ∷ []
unfolding network_with adst_with adst4_with weighted_with adst_more_with adst_in adst_start_with turned_with adst_rounds_with adst_turn_with adst_sum_with
    adst_out_with out_place identity_with scaled_with walsh_with brev cos128 half_btf_with clamp_value int_wrap
sine8_range20 = refl

sine16_range16 : network ADST 16 3 (pos 32767 ∷ pos 1 ∷ pos 16384 ∷ pos 16384 ∷ pos 32767 ∷ negsuc 0 ∷ negsuc 0 ∷ pos 16384 ∷ pos 32767
    ∷ negsuc 0 ∷ pos 1 ∷ pos 0 ∷ pos 32767 ∷ pos 0 ∷ pos 32767 ∷ pos 0 ∷ [])
    ≡ pos 32767 ∷ pos 14145 ∷ pos 32767 ∷ pos 2246 ∷ pos 20680 ∷ pos 32306 ∷ negsuc 30539 ∷ pos 8532 ∷ pos 8532 ∷ pos 15796 ∷ negsuc 13385
    ∷ pos 25655 ∷ negsuc 23549 ∷ pos 32768 ∷ negsuc 14175 ∷ pos 32768 ∷ []
unfolding network_with adst_with adst4_with weighted_with adst_more_with adst_in adst_start_with turned_with adst_rounds_with adst_turn_with adst_sum_with
    adst_out_with out_place identity_with scaled_with walsh_with brev cos128 half_btf_with clamp_value int_wrap
sine16_range16 = refl

sine16_range20 : network ADST 20 3 (pos 262144 ∷ pos 1 ∷ pos 1 ∷ negsuc 0 ∷ pos 524287 ∷ negsuc 0 ∷ pos 0 ∷ pos 1 ∷ pos 1 ∷ negsuc 0
    ∷ pos 524287 ∷ pos 0 ∷ pos 0 ∷ pos 524287 ∷ negsuc 524287 ∷ negsuc 524287 ∷ [])
    ≡ negsuc 281024 ∷ pos 128263 ∷ pos 524287 ∷ pos 524288 ∷ negsuc 377763 ∷ pos 113197 ∷ pos 248398 ∷ negsuc 517388 ∷ pos 117878
    ∷ pos 115135 ∷ pos 145825 ∷ negsuc 363611 ∷ pos 27709 ∷ negsuc 482665 ∷ pos 362344 ∷ pos 524288 ∷ []
unfolding network_with adst_with adst4_with weighted_with adst_more_with adst_in adst_start_with turned_with adst_rounds_with adst_turn_with adst_sum_with
    adst_out_with out_place identity_with scaled_with walsh_with brev cos128 half_btf_with clamp_value int_wrap
sine16_range20 = refl

flipped8 : network FLIPADST 16 2 (negsuc 109 ∷ negsuc 2994 ∷ pos 1 ∷ pos 4577 ∷ negsuc 1391 ∷ pos 1223 ∷ pos 1 ∷ pos 1 ∷ []) ≡ negsuc 2239 ∷ pos 6396 ∷
    pos 4204 ∷ negsuc 3687 ∷ negsuc 5958 ∷ negsuc 3971 ∷ pos 910 ∷ pos 2028 ∷ []
unfolding network_with adst_with adst4_with weighted_with adst_more_with adst_in adst_start_with turned_with adst_rounds_with adst_turn_with adst_sum_with
    adst_out_with out_place identity_with scaled_with walsh_with brev cos128 half_btf_with clamp_value int_wrap
flipped8 = refl

identity4 : network IDENTITY 20 1 (pos 524287 ∷ negsuc 524287 ∷ negsuc 524287 ∷ pos 524287 ∷ []) ≡ negsuc 307072 ∷ pos 307072 ∷ pos 307072 ∷ negsuc 307072 ∷ []
unfolding network_with adst_with adst4_with weighted_with adst_more_with adst_in adst_start_with turned_with adst_rounds_with adst_turn_with adst_sum_with
    adst_out_with out_place identity_with scaled_with walsh_with brev cos128 half_btf_with clamp_value int_wrap
identity4 = refl

identity8 : network IDENTITY 20 2 (negsuc 179 ∷ pos 266 ∷ negsuc 385 ∷ pos 442 ∷ pos 436 ∷ pos 248 ∷ pos 50 ∷ pos 81 ∷ []) ≡ negsuc 359 ∷ pos 532 ∷ negsuc 771 ∷
    pos 884 ∷ pos 872 ∷ pos 496 ∷ pos 100 ∷ pos 162 ∷ []
unfolding network_with adst_with adst4_with weighted_with adst_more_with adst_in adst_start_with turned_with adst_rounds_with adst_turn_with adst_sum_with
    adst_out_with out_place identity_with scaled_with walsh_with brev cos128 half_btf_with clamp_value int_wrap
identity8 = refl

identity16 : network IDENTITY 20 3 (pos 262144 ∷ pos 1 ∷ pos 1 ∷ negsuc 0 ∷ pos 524287 ∷ negsuc 0 ∷ pos 0 ∷ pos 1 ∷ pos 1 ∷ negsuc 0
    ∷ pos 524287 ∷ pos 0 ∷ pos 0 ∷ pos 524287 ∷ negsuc 524287 ∷ negsuc 524287 ∷ [])
    ≡ negsuc 307071 ∷ pos 3 ∷ pos 3 ∷ negsuc 2 ∷ pos 434429 ∷ negsuc 2 ∷ pos 0 ∷ pos 3 ∷ pos 3 ∷ negsuc 2 ∷ pos 434429 ∷ pos 0 ∷ pos 0
    ∷ pos 434429 ∷ negsuc 434431 ∷ negsuc 434431 ∷ []
unfolding network_with adst_with adst4_with weighted_with adst_more_with adst_in adst_start_with turned_with adst_rounds_with adst_turn_with adst_sum_with
    adst_out_with out_place identity_with scaled_with walsh_with brev cos128 half_btf_with clamp_value int_wrap
identity16 = refl

identity32 : network IDENTITY 20 4 (negsuc 278 ∷ pos 213 ∷ negsuc 117 ∷ negsuc 56 ∷ pos 251 ∷ pos 437 ∷ pos 434 ∷ pos 345 ∷ negsuc 350
    ∷ negsuc 479 ∷ negsuc 173 ∷ negsuc 215 ∷ pos 336 ∷ negsuc 283 ∷ negsuc 185 ∷ negsuc 152 ∷ negsuc 193 ∷ pos 220 ∷ negsuc 375
    ∷ negsuc 182 ∷ negsuc 348 ∷ pos 510 ∷ negsuc 97 ∷ negsuc 193 ∷ negsuc 445 ∷ pos 493 ∷ pos 78 ∷ negsuc 460 ∷ pos 330 ∷ pos 472
    ∷ negsuc 417 ∷ pos 328 ∷ [])
    ≡ negsuc 1115 ∷ pos 852 ∷ negsuc 471 ∷ negsuc 227 ∷ pos 1004 ∷ pos 1748 ∷ pos 1736 ∷ pos 1380 ∷ negsuc 1403 ∷ negsuc 1919 ∷ negsuc 695
    ∷ negsuc 863 ∷ pos 1344 ∷ negsuc 1135 ∷ negsuc 743 ∷ negsuc 611 ∷ negsuc 775 ∷ pos 880 ∷ negsuc 1503 ∷ negsuc 731 ∷ negsuc 1395
    ∷ pos 2040 ∷ negsuc 391 ∷ negsuc 775 ∷ negsuc 1783 ∷ pos 1972 ∷ pos 312 ∷ negsuc 1843 ∷ pos 1320 ∷ pos 1888 ∷ negsuc 1671 ∷ pos 1312
    ∷ []
unfolding network_with adst_with adst4_with weighted_with adst_more_with adst_in adst_start_with turned_with adst_rounds_with adst_turn_with adst_sum_with
    adst_out_with out_place identity_with scaled_with walsh_with brev cos128 half_btf_with clamp_value int_wrap
identity32 = refl

-- the first of these identities where it never wraps
exact_identity4 : network EXACT_IDENTITY 20 1 (pos 524287 ∷ negsuc 524287 ∷ negsuc 524287 ∷ pos 524287 ∷ []) ≡ pos 741503 ∷ negsuc 741503 ∷ negsuc 741503 ∷
    pos 741503 ∷ []
unfolding network_with identity_with scaled_with
exact_identity4 = refl

walsh_of_four : network WHT 20 1 (pos 524287 ∷ negsuc 524287 ∷ negsuc 524287 ∷ pos 524287 ∷ []) ≡ negsuc 0 ∷ pos 0 ∷ pos 1048575 ∷ pos 0 ∷ []
unfolding network_with adst_with adst4_with weighted_with adst_more_with adst_in adst_start_with turned_with adst_rounds_with adst_turn_with adst_sum_with
    adst_out_with out_place identity_with scaled_with walsh_with brev cos128 half_btf_with clamp_value int_wrap
walsh_of_four = refl

-- the residue of one row of a block
abbrev residue_row : List ℤ → ℕ → List ℤ
residue_row cs r = map (residue TX_4X4 DCT_DCT 8 cs r) (0 ∷ 1 ∷ 2 ∷ 3 ∷ [])

first_coefficient_row0 : residue_row (pos 100 ∷ []) 0 ≡ pos 3 ∷ pos 3 ∷ pos 3 ∷ pos 3 ∷ []
unfolding residue_by transformed_column column_network transformed_row row_input row_value cosine_with odd_half_with mirror_sum_with rounds_with inner_turn_with
    group_sum_with
    outer_turn_with network_with adst_with adst4_with weighted_with adst_more_with adst_in adst_start_with turned_with adst_rounds_with adst_turn_with
    adst_sum_with adst_out_with out_place identity_with scaled_with walsh_with brev cos128 half_btf_with clamp_value int_wrap
first_coefficient_row0 = refl

first_coefficient_row3 : residue_row (pos 100 ∷ []) 3 ≡ pos 3 ∷ pos 3 ∷ pos 3 ∷ pos 3 ∷ []
unfolding residue_by transformed_column column_network transformed_row row_input row_value cosine_with odd_half_with mirror_sum_with rounds_with inner_turn_with
    group_sum_with
    outer_turn_with network_with adst_with adst4_with weighted_with adst_more_with adst_in adst_start_with turned_with adst_rounds_with adst_turn_with
    adst_sum_with adst_out_with out_place identity_with scaled_with walsh_with brev cos128 half_btf_with clamp_value int_wrap
first_coefficient_row3 = refl

second_coefficient_row0 : residue_row (pos 0 ∷ pos 100 ∷ []) 0 ≡ pos 4 ∷ pos 4 ∷ pos 4 ∷ pos 4 ∷ []
unfolding residue_by transformed_column column_network transformed_row row_input row_value cosine_with odd_half_with mirror_sum_with rounds_with inner_turn_with
    group_sum_with
    outer_turn_with network_with adst_with adst4_with weighted_with adst_more_with adst_in adst_start_with turned_with adst_rounds_with adst_turn_with
    adst_sum_with adst_out_with out_place identity_with scaled_with walsh_with brev cos128 half_btf_with clamp_value int_wrap
second_coefficient_row0 = refl

second_coefficient_row1 : residue_row (pos 0 ∷ pos 100 ∷ []) 1 ≡ pos 2 ∷ pos 2 ∷ pos 2 ∷ pos 2 ∷ []
unfolding residue_by transformed_column column_network transformed_row row_input row_value cosine_with odd_half_with mirror_sum_with rounds_with inner_turn_with
    group_sum_with
    outer_turn_with network_with adst_with adst4_with weighted_with adst_more_with adst_in adst_start_with turned_with adst_rounds_with adst_turn_with
    adst_sum_with adst_out_with out_place identity_with scaled_with walsh_with brev cos128 half_btf_with clamp_value int_wrap
second_coefficient_row1 = refl

second_coefficient_row2 : residue_row (pos 0 ∷ pos 100 ∷ []) 2 ≡ negsuc 1 ∷ negsuc 1 ∷ negsuc 1 ∷ negsuc 1 ∷ []
unfolding residue_by transformed_column column_network transformed_row row_input row_value cosine_with odd_half_with mirror_sum_with rounds_with inner_turn_with
    group_sum_with
    outer_turn_with network_with adst_with adst4_with weighted_with adst_more_with adst_in adst_start_with turned_with adst_rounds_with adst_turn_with
    adst_sum_with adst_out_with out_place identity_with scaled_with walsh_with brev cos128 half_btf_with clamp_value int_wrap
second_coefficient_row2 = refl

second_coefficient_row3 : residue_row (pos 0 ∷ pos 100 ∷ []) 3 ≡ negsuc 3 ∷ negsuc 3 ∷ negsuc 3 ∷ negsuc 3 ∷ []
unfolding residue_by transformed_column column_network transformed_row row_input row_value cosine_with odd_half_with mirror_sum_with rounds_with inner_turn_with
    group_sum_with
    outer_turn_with network_with adst_with adst4_with weighted_with adst_more_with adst_in adst_start_with turned_with adst_rounds_with adst_turn_with
    adst_sum_with adst_out_with out_place identity_with scaled_with walsh_with brev cos128 half_btf_with clamp_value int_wrap
second_coefficient_row3 = refl

-- two great coefficients at a depth of 12, on samples of 2048: sums of the rows wrap
two_great : map
    (λ c. clip 12 (pos 2048 +ℤ residue TX_4X4 DCT_DCT 12 (pos 524287 ∷ pos 0 ∷ pos 0 ∷ pos 0 ∷ pos 0 ∷ pos 0 ∷ pos 0 ∷ pos 0 ∷ pos 524287 ∷ []) 2 c))
    (0 ∷ 1 ∷ 2 ∷ 3 ∷ []) ≡ 0 ∷ 2048 ∷ 2048 ∷ 0 ∷ []
unfolding residue_by transformed_column column_network transformed_row row_input row_value cosine_with odd_half_with mirror_sum_with rounds_with inner_turn_with
    group_sum_with
    outer_turn_with network_with adst_with adst4_with weighted_with adst_more_with adst_in adst_start_with turned_with adst_rounds_with adst_turn_with
    adst_sum_with adst_out_with out_place identity_with scaled_with walsh_with brev cos128 half_btf_with clamp_value int_wrap
two_great = refl
