-- What lists of spans cover, and what one span more does.
use Rattle.std.proofs.Common.{◌≡◌, ℕ, ◌<◌, Bool, true, false, cond, ◌||◌, List, [], ◌∷◌, ◌++◌, ap, sym, subst, refl, ◌∙◌, arith}
use Rattle.std.specs.Prelude.{Contains, Option, Some, None, Result, Ok, Err, OnOk}
use Rattle.std.specs.Option.{option_or}
use Rattle.std.proofs.lemmas.List.Elements.{All-push}
use Rattle.mill_base.specs.declared.size.Size.{Size}
use Rattle.point_paper.specs.Papers.{covers}
use Rattle.point_paper.specs.declared.paper.Span.{Span}
use Rattle.strokes.specs.Spans.{cover, span_colour, IsInside}
use Rattle.strokes.specs.inner.Spans.{PaintInColour, AreAdded, run}

pub or_none : {A : Type 0} (x : Option A) → option_or x None ≡ x
or_none None = refl
or_none (Some x) = refl

pub or_assoc : {A : Type 0} (x y z : Option A) → option_or (option_or x y) z ≡ option_or x (option_or y z)
or_assoc None y z = refl
or_assoc (Some x) y z = refl

pub cover_append : (xs ys : List Span) (c p : ℕ) → cover (xs ++ ys) c p ≡ option_or (cover ys c p) (cover xs c p)
cover_append [] ys c p = sym (or_none (cover ys c p))
cover_append (x ∷ xs) ys c p =
    ap (λ o. option_or o (span_colour x c p)) (cover_append xs ys c p) ∙ or_assoc (cover ys c p) (cover xs c p) (span_colour x c p)

either_colour : (a b : Bool) (x y : ℕ) → x ≡ y → option_or (cond a (Some x) None) (cond b (Some y) None) ≡ cond (b || a) (Some y) None
either_colour true true x y same = ap Some same
either_colour true false x y same = ap Some same
either_colour false true x y same = refl
either_colour false false x y same = refl

-- spans of one colour, and one span more
pub colour_push : (size : Size) (colour : ℕ) (has more : ℕ → ℕ → Bool) (spans : List Span) (span : Span) → PaintInColour size colour has spans
    → IsInside size span → span.colour ≡ colour → ((c p : ℕ) → (has c p || covers span c p) ≡ more c p) → PaintInColour size colour more (spans ++ span ∷ [])
colour_push size colour has more spans span before inside same cells = record {
  cells = λ c p.
      cover_append spans (span ∷ []) c p ∙ ap (option_or (span_colour span c p)) (before.cells c p)
      ∙ either_colour (covers span c p) (has c p) span.colour colour same ∙ ap (λ b. cond b (Some colour) None) (cells c p);
  inside = All-push (IsInside size) spans span before.inside inside;
  colours = All-push (λ s. s.colour ≡ colour) spans span before.colours same;
}

-- a test that is the same
pub colour_alike : (size : Size) (colour : ℕ) (one other : ℕ → ℕ → Bool) (spans : List Span) → PaintInColour size colour one spans → ((c p : ℕ) → one c p ≡ other c p)
    → PaintInColour size colour other spans
colour_alike size colour one other spans before same = record {
  cells = λ c p. before.cells c p ∙ ap (λ b. cond b (Some colour) None) (same c p);
  inside = before.inside;
  colours = before.colours;
}

-- nothing is added
pub added_nothing : (size : Size) (all : List (Option ℕ)) (painted : ℕ → ℕ → Option ℕ) (spans : List Span) → ((c p : ℕ) → c < size.columns → p < size.picks → painted c p ≡ None)
    → AreAdded size all painted spans spans
added_nothing size all painted spans none = record {
  over = λ c p column pick. ap (λ o. option_or o (cover spans c p)) (sym (none c p column pick));
  inside = λ before. before;
  colours = λ before. before;
}

-- one span is added
pub added_span : (size : Size) (all : List (Option ℕ)) (spans : List Span) (span : Span) → IsInside size span → Contains all (Some span.colour)
    → AreAdded size all (span_colour span) spans (spans ++ span ∷ [])
added_span size all spans span inside among = record {
  over = λ c p column pick. cover_append spans (span ∷ []) c p;
  inside = λ before. All-push (IsInside size) spans span before inside;
  colours = λ before. All-push (λ s. Contains all (Some s.colour)) spans span before among;
}

-- spans are added twice
pub added_twice : (size : Size) (all : List (Option ℕ)) (one other both : ℕ → ℕ → Option ℕ) (old mid new : List Span) → AreAdded size all one old mid → AreAdded size all other mid new
    → ((c p : ℕ) → c < size.columns → p < size.picks → option_or (other c p) (one c p) ≡ both c p) → AreAdded size all both old new
added_twice size all one other both old mid new first second same = record {
  over = λ c p column pick.
      second.over c p column pick ∙ ap (option_or (other c p)) (first.over c p column pick) ∙ sym (or_assoc (other c p) (one c p) (cover old c p))
      ∙ ap (λ o. option_or o (cover old c p)) (same c p column pick);
  inside = λ before. second.inside (first.inside before);
  colours = λ before. second.colours (first.colours before);
}

pub added_alike : (size : Size) (all : List (Option ℕ)) (one other : ℕ → ℕ → Option ℕ) (old new : List Span) → AreAdded size all one old new
    → ((c p : ℕ) → c < size.columns → p < size.picks → one c p ≡ other c p) → AreAdded size all other old new
added_alike size all one other old new before same = record {
  over = λ c p column pick. before.over c p column pick ∙ ap (λ o. option_or o (cover old c p)) (same c p column pick);
  inside = before.inside;
  colours = before.colours;
}

-- the span of a run is added
pub added_run : (size : Size) (all : List (Option ℕ)) (old new : List Span) (cell : Option ℕ) (span : Span) → cell ≡ Some span.colour → new ≡ old ++ span ∷ [] → IsInside size span
    → Contains all cell → AreAdded size all (run cell span.column span.pick span.length) old new
added_run size all old new cell span same is inside among =
    subst (λ items. AreAdded size all (run cell span.column span.pick span.length) old items) (sym is)
    (subst (λ o. AreAdded size all (run o span.column span.pick span.length) old (old ++ span ∷ [])) (sym same)
    (added_span size all old span inside (subst (λ o. Contains all o) same among)))

-- what follows of an answer that is Ok
pub on_ok : {T E : Type 0} (r : Result T E) (P Q : Type 0) → OnOk r P → (P → Q) → OnOk r Q
on_ok (Ok x) P Q h f = f h
on_ok (Err e) P Q h f = h

-- no span, where nothing is to be painted
pub colour_none : (size : Size) (colour : ℕ) (has : ℕ → ℕ → Bool) → ((c p : ℕ) → has c p ≡ false) → PaintInColour size colour has []
colour_none size colour has none = record {
  cells = λ c p. ap (λ b. cond b (Some colour) None) (sym (none c p));
  inside = λ k d h. absurd (omega (arith, h));
  colours = λ k d h. absurd (omega (arith, h));
}
