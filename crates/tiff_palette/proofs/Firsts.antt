-- Faults one after another, and those of the strips.
use Rattle.std.proofs.Common.{◌≡◌, ℕ, ◌+◌, ◌-◌, ◌<◌, Bool, true, false, List, [], ◌∷◌, ◌++◌, append-nil, refl, sym, ap, subst, ◌∙◌, arith}
use Rattle.std.specs.List.{range_with_len, flat_map}
use Rattle.std.proofs.lemmas.Grind.{flat_map-append}
use Rattle.tiff_palette.specs.declared.fault.TiffFault.{TiffFault}
use Rattle.tiff_palette.specs.declared.fault.TiffFault.TheVariants.{ShortStrip}
use Rattle.tiff_palette.specs.Rules.{is_held, short_strips, unless}
use Rattle.tiff_palette.specs.inner.Outcomes.{TellsFirst}
use Rattle.mill_base.proofs.lemmas.Ranges.{range_more, range_at}

-- the first fault of a rule is the first of all behind it
pub told_here : (xs ys : List TiffFault) (f : TiffFault) → TellsFirst xs f → TellsFirst (xs ++ ys) f
told_here [] ys f h = absurd (cc (h.first))
told_here (x ∷ xs) ys f h = record { first = h.first }

-- a rule that is kept tells nothing
pub told_later : (xs ys : List TiffFault) (f : TiffFault) → xs ≡ [] → TellsFirst ys f → TellsFirst (xs ++ ys) f
told_later xs ys f e h = rw e h

abbrev strip_faults : List ℕ → ℕ → List TiffFault
strip_faults bytes k = unless (is_held bytes k) (ShortStrip k)

-- no strip below k has a fault, and strip k has none
pub none_more : (bytes : List ℕ) (k : ℕ) → short_strips bytes k ≡ [] → is_held bytes k ≡ true → short_strips bytes (k + 1) ≡ []
unfolding short_strips
none_more bytes k before here =
    ap (flat_map (strip_faults bytes)) (range_more 0 k k (omega arith)) ∙ flat_map-append (strip_faults bytes) (range_with_len 0 k) (k ∷ [])
    ∙ ap (λ xs. xs ++ flat_map (strip_faults bytes) (k ∷ [])) before ∙ append-nil (strip_faults bytes k) ∙ ap (λ (b : Bool). unless b (ShortStrip k)) here

-- no strip below k has a fault, and strip k has one, which is told
pub first_short : (bytes : List ℕ) (k n : ℕ) (f : TiffFault) → short_strips bytes k ≡ [] → TellsFirst (strip_faults bytes k) f → k < n → TellsFirst (short_strips bytes n) f
unfolding short_strips
first_short bytes k n f before here below =
    let above = flat_map (strip_faults bytes) (range_with_len (k + 1) (n - k - 1)) in
    let parts = ap (flat_map (strip_faults bytes)) (range_at k n below) ∙ flat_map-append (strip_faults bytes) (range_with_len 0 k) (k ∷ range_with_len (k + 1) (n - k - 1)) in
    subst (λ faults. TellsFirst faults f) (sym parts)
    (told_later (flat_map (strip_faults bytes) (range_with_len 0 k)) (strip_faults bytes k ++ above) f before (told_here (strip_faults bytes k) above f here))

none_within : (xs ys zs : List TiffFault) → xs ++ (ys ++ zs) ≡ [] → ys ≡ []
none_within [] [] zs e = refl
none_within [] (y ∷ ys) zs e = absurd (cc)
none_within (x ∷ xs) ys zs e = absurd (cc)

kept_test : (b : Bool) (f : TiffFault) → unless b f ≡ [] → b ≡ true
kept_test true f e = refl
kept_test false f e = absurd (cc)

-- where no strip has a fault, each one lies in the file
pub held_of_none : (bytes : List ℕ) (k n : ℕ) → short_strips bytes n ≡ [] → k < n → is_held bytes k ≡ true
unfolding short_strips
held_of_none bytes k n none below =
    let above = flat_map (strip_faults bytes) (range_with_len (k + 1) (n - k - 1)) in
    let parts = ap (flat_map (strip_faults bytes)) (range_at k n below) ∙ flat_map-append (strip_faults bytes) (range_with_len 0 k) (k ∷ range_with_len (k + 1) (n - k - 1)) in
    kept_test (is_held bytes k) (ShortStrip k) (none_within (flat_map (strip_faults bytes) (range_with_len 0 k)) (strip_faults bytes k) above (sym parts ∙ none))

pub no_strips : (bytes : List ℕ) → short_strips bytes 0 ≡ []
unfolding short_strips
no_strips bytes = refl
