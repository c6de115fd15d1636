-- What rav1e's own networks answer, computed from the definition. At a range of 20 a rotation wraps in each of these.
use Rattle.std.specs.Prelude.{◌≡◌, pos, negsuc, [], ◌∷◌, refl}
use Rattle.std.specs.Int.{int_wrap}
use Rattle.av1_dct.specs.Arithmetic.{clamp_value}
use Rattle.av1_dct.specs.Operations.{half_btf, half_btf_with}
use Rattle.av1_dct.specs.Cosine.{cosine, brev, cos128, cosine_with, odd_half_with, group_sum_with, inner_turn_with, mirror_sum_with, outer_turn_with}
use Rattle.av1_dct.specs.Cosine.{rounds_with}

one_weight : half_btf (cos128 32) (pos 524287) (cos128 32) (pos 524287) ≡ negsuc 307200
unfolding half_btf_with cos128 int_wrap
one_weight = refl

constant4 : cosine 16 1 (pos 100 ∷ pos 0 ∷ pos 0 ∷ pos 0 ∷ []) ≡ (pos 71 ∷ pos 71 ∷ pos 71 ∷ pos 71 ∷ [])
unfolding cosine_with odd_half_with mirror_sum_with rounds_with inner_turn_with group_sum_with outer_turn_with brev cos128 half_btf_with clamp_value int_wrap
constant4 = refl

wrapping4 : cosine 20 1 (pos 524287 ∷ pos 0 ∷ pos 524287 ∷ pos 0 ∷ []) ≡ (negsuc 307200 ∷ pos 0 ∷ pos 0 ∷ negsuc 307200 ∷ [])
unfolding cosine_with odd_half_with mirror_sum_with rounds_with inner_turn_with group_sum_with outer_turn_with brev cos128 half_btf_with clamp_value int_wrap
wrapping4 = refl

inputs4_range20 : cosine 20 1 (pos 524287 ∷ negsuc 524287 ∷ pos 524287 ∷ negsuc 524287 ∷ []) ≡ (pos 56447 ∷ pos 283776 ∷ negsuc 283775 ∷ negsuc 524287 ∷ [])
unfolding cosine_with odd_half_with mirror_sum_with rounds_with inner_turn_with group_sum_with outer_turn_with brev cos128 half_btf_with clamp_value int_wrap
inputs4_range20 = refl

inputs8_range16 : cosine 16 2 (pos 0 ∷ negsuc 32767 ∷ negsuc 0 ∷ negsuc 32767 ∷ pos 16384 ∷ negsuc 32767 ∷ negsuc 0 ∷ pos 1 ∷ []) ≡
    (negsuc 21184 ∷ negsuc 293 ∷ negsuc 4038 ∷ negsuc 3847 ∷ pos 27018 ∷ negsuc 19130 ∷ negsuc 22871 ∷ pos 32767 ∷ [])
unfolding cosine_with odd_half_with mirror_sum_with rounds_with inner_turn_with group_sum_with outer_turn_with brev cos128 half_btf_with clamp_value int_wrap
inputs8_range16 = refl

inputs8_range20 : cosine 20 2 (pos 524287 ∷ negsuc 524287 ∷ pos 524287 ∷ negsuc 524287 ∷ negsuc 524287 ∷ pos 524287 ∷ negsuc 524287 ∷ pos 524287 ∷ []) ≡
    (negsuc 240513 ∷ negsuc 342563 ∷ pos 524287 ∷ negsuc 172927 ∷ negsuc 394623 ∷ negsuc 432477 ∷ negsuc 524287 ∷ pos 524287 ∷ [])
unfolding cosine_with odd_half_with mirror_sum_with rounds_with inner_turn_with group_sum_with outer_turn_with brev cos128 half_btf_with clamp_value int_wrap
inputs8_range20 = refl

inputs16_range16 : cosine 16 3 (negsuc 32767 ∷ pos 32767 ∷ negsuc 32767 ∷ pos 32767 ∷ negsuc 32767 ∷ pos 32767 ∷ pos 32767 ∷ pos 32767
    ∷ pos 32767 ∷ negsuc 32767 ∷ negsuc 32767 ∷ negsuc 32767 ∷ pos 32767 ∷ negsuc 32767 ∷ pos 32767 ∷ negsuc 32767 ∷ [])
    ≡ (negsuc 0 ∷ negsuc 0 ∷ negsuc 32767 ∷ negsuc 24766 ∷ pos 32767 ∷ pos 32767 ∷ negsuc 30483 ∷ negsuc 7854 ∷ pos 5791 ∷ pos 1488
    ∷ pos 5059 ∷ pos 23033 ∷ negsuc 5298 ∷ negsuc 14959 ∷ negsuc 32767 ∷ negsuc 32767 ∷ [])
unfolding cosine_with odd_half_with mirror_sum_with rounds_with inner_turn_with group_sum_with outer_turn_with brev cos128 half_btf_with clamp_value int_wrap
inputs16_range16 = refl

inputs16_range20 : cosine 20 3 (negsuc 524287 ∷ pos 524287 ∷ negsuc 524287 ∷ pos 524287 ∷ negsuc 524287 ∷ pos 524287 ∷ pos 524287
    ∷ pos 524287 ∷ pos 524287 ∷ negsuc 524287 ∷ negsuc 524287 ∷ negsuc 524287 ∷ pos 524287 ∷ negsuc 524287 ∷ pos 524287 ∷ negsuc 524287
    ∷ [])
    ≡ (negsuc 0 ∷ negsuc 34134 ∷ negsuc 196573 ∷ pos 368537 ∷ negsuc 84761 ∷ pos 524287 ∷ negsuc 0 ∷ negsuc 125694 ∷ pos 92671 ∷ pos 524287
    ∷ negsuc 39825 ∷ negsuc 396261 ∷ pos 524287 ∷ negsuc 524287 ∷ pos 498079 ∷ negsuc 524287 ∷ [])
unfolding cosine_with odd_half_with mirror_sum_with rounds_with inner_turn_with group_sum_with outer_turn_with brev cos128 half_btf_with clamp_value int_wrap
inputs16_range20 = refl

inputs32_range16 : cosine 16 4 (pos 32767 ∷ pos 32767 ∷ negsuc 32767 ∷ pos 32767 ∷ negsuc 32767 ∷ negsuc 32767 ∷ pos 32767 ∷ negsuc 32767
    ∷ negsuc 32767 ∷ negsuc 32767 ∷ negsuc 32767 ∷ pos 32767 ∷ negsuc 32767 ∷ negsuc 32767 ∷ pos 32767 ∷ pos 32767 ∷ negsuc 32767
    ∷ negsuc 32767 ∷ negsuc 32767 ∷ negsuc 32767 ∷ negsuc 32767 ∷ pos 32767 ∷ pos 32767 ∷ negsuc 32767 ∷ pos 32767 ∷ pos 32767
    ∷ negsuc 32767 ∷ negsuc 32767 ∷ pos 32767 ∷ pos 32767 ∷ negsuc 32767 ∷ pos 32767 ∷ [])
    ≡ (negsuc 32767 ∷ pos 9416 ∷ pos 32767 ∷ negsuc 14401 ∷ pos 32767 ∷ pos 17228 ∷ negsuc 18545 ∷ negsuc 32767 ∷ pos 32767 ∷ pos 32767
    ∷ pos 17937 ∷ pos 27809 ∷ pos 29549 ∷ pos 5786 ∷ negsuc 27743 ∷ pos 22872 ∷ negsuc 32767 ∷ pos 32767 ∷ pos 32767 ∷ negsuc 32767
    ∷ pos 32767 ∷ pos 449 ∷ pos 28984 ∷ pos 7189 ∷ pos 3021 ∷ negsuc 26111 ∷ negsuc 32767 ∷ negsuc 32767 ∷ negsuc 32767 ∷ negsuc 27059
    ∷ negsuc 32767 ∷ negsuc 29356 ∷ [])
unfolding cosine_with odd_half_with mirror_sum_with rounds_with inner_turn_with group_sum_with outer_turn_with brev cos128 half_btf_with clamp_value int_wrap
inputs32_range16 = refl

inputs32_range20 : cosine 20 4 (negsuc 524287 ∷ pos 524287 ∷ pos 524287 ∷ pos 524287 ∷ negsuc 524287 ∷ pos 524287 ∷ pos 524287 ∷ pos 524287
    ∷ negsuc 524287 ∷ negsuc 524287 ∷ pos 524287 ∷ pos 524287 ∷ negsuc 524287 ∷ negsuc 524287 ∷ pos 524287 ∷ negsuc 524287 ∷ negsuc 524287
    ∷ pos 524287 ∷ pos 524287 ∷ pos 524287 ∷ pos 524287 ∷ negsuc 524287 ∷ pos 524287 ∷ pos 524287 ∷ negsuc 524287 ∷ pos 524287
    ∷ pos 524287 ∷ pos 524287 ∷ pos 524287 ∷ negsuc 524287 ∷ pos 524287 ∷ pos 524287 ∷ [])
    ≡ (negsuc 524287 ∷ negsuc 17752 ∷ pos 305627 ∷ negsuc 524287 ∷ pos 347557 ∷ negsuc 3304 ∷ pos 374125 ∷ pos 524287 ∷ pos 487636
    ∷ pos 137179 ∷ negsuc 475445 ∷ negsuc 524287 ∷ pos 524287 ∷ negsuc 365945 ∷ pos 228424 ∷ pos 524287 ∷ pos 51839 ∷ pos 524287
    ∷ negsuc 181255 ∷ negsuc 99198 ∷ negsuc 497771 ∷ negsuc 47879 ∷ negsuc 477222 ∷ pos 524287 ∷ negsuc 82859 ∷ pos 374127 ∷ negsuc 524287
    ∷ pos 59227 ∷ pos 168063 ∷ pos 524287 ∷ negsuc 99822 ∷ negsuc 100347 ∷ [])
unfolding cosine_with odd_half_with mirror_sum_with rounds_with inner_turn_with group_sum_with outer_turn_with brev cos128 half_btf_with clamp_value int_wrap
inputs32_range20 = refl

inputs64_range16 : cosine 16 5 (pos 3 ∷ pos 44 ∷ pos 1 ∷ negsuc 2 ∷ negsuc 1 ∷ pos 4 ∷ negsuc 299 ∷ pos 57 ∷ pos 1670 ∷ pos 86 ∷ pos 141
    ∷ negsuc 0 ∷ pos 5 ∷ pos 6325 ∷ pos 2758 ∷ pos 22 ∷ pos 1 ∷ negsuc 63 ∷ pos 3 ∷ pos 27 ∷ negsuc 0 ∷ negsuc 1 ∷ negsuc 1 ∷ negsuc 19
    ∷ pos 31149 ∷ negsuc 102 ∷ pos 3 ∷ negsuc 12 ∷ pos 336 ∷ negsuc 0 ∷ negsuc 228 ∷ pos 3 ∷ pos 0 ∷ negsuc 5855 ∷ negsuc 57 ∷ negsuc 39
    ∷ pos 3556 ∷ negsuc 1 ∷ pos 3 ∷ negsuc 65 ∷ pos 10 ∷ negsuc 1 ∷ pos 1 ∷ pos 274 ∷ negsuc 0 ∷ negsuc 6 ∷ pos 74 ∷ negsuc 861 ∷ pos 7
    ∷ pos 0 ∷ negsuc 12182 ∷ negsuc 12 ∷ negsuc 803 ∷ pos 1 ∷ pos 705 ∷ negsuc 2921 ∷ negsuc 2 ∷ negsuc 2 ∷ pos 4 ∷ pos 1780 ∷ pos 0
    ∷ negsuc 157 ∷ negsuc 12 ∷ negsuc 279 ∷ [])
    ≡ (pos 29463 ∷ pos 14106 ∷ negsuc 31347 ∷ negsuc 14196 ∷ pos 3069 ∷ pos 15307 ∷ pos 18489 ∷ negsuc 32767 ∷ negsuc 17623 ∷ pos 18379
    ∷ pos 32767 ∷ pos 24864 ∷ negsuc 31029 ∷ negsuc 28107 ∷ negsuc 3798 ∷ pos 4156 ∷ pos 24887 ∷ pos 6091 ∷ negsuc 27508 ∷ negsuc 6418
    ∷ pos 9221 ∷ pos 32767 ∷ negsuc 7369 ∷ negsuc 32767 ∷ negsuc 18778 ∷ negsuc 7148 ∷ pos 30417 ∷ pos 14254 ∷ negsuc 7789 ∷ negsuc 9505
    ∷ negsuc 18506 ∷ pos 31006 ∷ pos 31996 ∷ negsuc 18900 ∷ negsuc 30671 ∷ negsuc 27831 ∷ pos 25362 ∷ pos 32767 ∷ negsuc 2236
    ∷ negsuc 13764 ∷ negsuc 21994 ∷ negsuc 195 ∷ pos 23729 ∷ negsuc 352 ∷ negsuc 14358 ∷ negsuc 25722 ∷ negsuc 19748 ∷ pos 32767
    ∷ pos 20490 ∷ pos 9341 ∷ negsuc 28507 ∷ negsuc 32767 ∷ pos 32767 ∷ pos 14612 ∷ pos 411 ∷ negsuc 26777 ∷ negsuc 25585 ∷ pos 17201
    ∷ pos 17785 ∷ pos 23599 ∷ negsuc 964 ∷ negsuc 32767 ∷ negsuc 6173 ∷ pos 26867 ∷ [])
unfolding cosine_with odd_half_with mirror_sum_with rounds_with inner_turn_with group_sum_with outer_turn_with brev cos128 half_btf_with clamp_value int_wrap
inputs64_range16 = refl

inputs64_range20 : cosine 20 5 (pos 102008 ∷ negsuc 48726 ∷ negsuc 96621 ∷ pos 451944 ∷ negsuc 253570 ∷ negsuc 161684 ∷ negsuc 121064
    ∷ pos 426159 ∷ negsuc 497772 ∷ pos 169328 ∷ negsuc 493487 ∷ negsuc 350938 ∷ pos 519922 ∷ pos 95138 ∷ negsuc 439227 ∷ pos 376364
    ∷ pos 18658 ∷ pos 131160 ∷ pos 388360 ∷ pos 208927 ∷ pos 81888 ∷ pos 186240 ∷ negsuc 134221 ∷ negsuc 135285 ∷ negsuc 427442
    ∷ negsuc 364620 ∷ negsuc 408072 ∷ negsuc 428334 ∷ pos 404711 ∷ negsuc 325221 ∷ pos 30330 ∷ pos 121720 ∷ negsuc 485710 ∷ negsuc 510874
    ∷ pos 195601 ∷ negsuc 264175 ∷ pos 155750 ∷ pos 423736 ∷ negsuc 412120 ∷ negsuc 267081 ∷ pos 328003 ∷ pos 340438 ∷ negsuc 469996
    ∷ negsuc 38138 ∷ pos 519724 ∷ negsuc 404803 ∷ pos 299046 ∷ negsuc 491843 ∷ pos 361640 ∷ negsuc 46677 ∷ pos 514067 ∷ negsuc 153279
    ∷ negsuc 248431 ∷ pos 430935 ∷ negsuc 112455 ∷ pos 62629 ∷ negsuc 491760 ∷ negsuc 293930 ∷ pos 1396 ∷ pos 359239 ∷ pos 491243
    ∷ pos 443473 ∷ pos 224277 ∷ negsuc 85291 ∷ [])
    ≡ (pos 466550 ∷ negsuc 298354 ∷ pos 524287 ∷ negsuc 341444 ∷ negsuc 524287 ∷ negsuc 317742 ∷ negsuc 249079 ∷ negsuc 524287
    ∷ negsuc 334129 ∷ negsuc 245036 ∷ negsuc 389650 ∷ negsuc 193642 ∷ negsuc 44449 ∷ pos 217086 ∷ pos 116535 ∷ negsuc 463369 ∷ pos 491997
    ∷ pos 67109 ∷ negsuc 471596 ∷ pos 380205 ∷ pos 524287 ∷ negsuc 95900 ∷ pos 28869 ∷ pos 101634 ∷ negsuc 524287 ∷ negsuc 89008
    ∷ pos 524287 ∷ negsuc 308197 ∷ pos 363681 ∷ pos 396090 ∷ pos 524287 ∷ pos 438380 ∷ pos 333526 ∷ pos 330299 ∷ pos 461800
    ∷ negsuc 187440 ∷ negsuc 308889 ∷ pos 1061 ∷ negsuc 75478 ∷ negsuc 64107 ∷ pos 524287 ∷ negsuc 524287 ∷ pos 524287 ∷ negsuc 93828
    ∷ pos 380205 ∷ negsuc 471596 ∷ pos 67109 ∷ negsuc 140798 ∷ negsuc 524287 ∷ negsuc 497864 ∷ pos 524287 ∷ pos 524287 ∷ negsuc 524287
    ∷ negsuc 524287 ∷ pos 252823 ∷ negsuc 451059 ∷ negsuc 212336 ∷ negsuc 216399 ∷ pos 36857 ∷ negsuc 23633 ∷ negsuc 341442 ∷ pos 306385
    ∷ pos 524287 ∷ pos 524287 ∷ [])
unfolding cosine_with odd_half_with mirror_sum_with rounds_with inner_turn_with group_sum_with outer_turn_with brev cos128 half_btf_with clamp_value int_wrap
inputs64_range20 = refl
