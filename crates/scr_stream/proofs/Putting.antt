-- The messages of a stream put one after another.
use Rattle.std.proofs.Common.{◌≡◌, ℕ, suc, ◌+◌, ◌-◌, ◌<◌, ◌≤◌, List, [], ◌++◌, length, take, drop, Option, Result, refl, sym, ap, ◌∙◌, subst, append_assoc, arith}
use Rattle.std.specs.List.{flat_map, range_with_len}
use Rattle.std.proofs.lemmas.List.{drop-take, append-nil}
use Rattle.std.proofs.lemmas.Grind.{flat_map-append}
use Rattle.scr_base.specs.Streams.{StopsWithin, Passes, WritesText}
use Rattle.scr_base.proofs.Streams.{Appends-none, Passes-then, Passes-stops, StopsWithin-longer, WritesText-finish}
use Rattle.scr_base.specs.declared.row.Row.{Row}
use Rattle.scr_plan.specs.Plan.{Plan}
use Rattle.scr_plan.specs.Kept.{first_carried}
use Rattle.scr_wire.specs.declared.message.Message.TheVariants.{End}
use Rattle.scr_wire.specs.declared.message.MessageKind.TheVariants as kind
use Rattle.scr_wire.specs.Spelling.{header_bytes, rows_bytes, spelling}
use Rattle.scr_wire.specs.Lane.{frame, rows_carried}
use Rattle.scr_plan.proofs.FromOne.{lists-suc, range-append}

-- the numbers so far, one more, and the others
lists-parts : (f : ℕ → List ℕ) (i n : ℕ) → i < n → (rest : List ℕ) × (flat_map f (range_with_len 1 n) ≡ (flat_map f (range_with_len 1 i) ++ f (i + 1)) ++ rest)
lists-parts f i n below =
    let all : n ≡ (i + 1) + (n - (i + 1)) = omega arith in
    let next : suc i ≡ i + 1 = omega arith in (
      flat_map f (range_with_len (1 + (i + 1)) (n - (i + 1))),
      ap (λ (k : ℕ). flat_map f (range_with_len 1 k)) all
          ∙ ap (flat_map f) (range-append 1 (i + 1) (n - (i + 1)))
          ∙ flat_map-append f (range_with_len 1 (i + 1)) (range_with_len (1 + (i + 1)) (n - (i + 1)))
          ∙ ap (λ (x : List ℕ). x ++ flat_map f (range_with_len (1 + (i + 1)) (n - (i + 1))))
          (ap (λ (k : ℕ). flat_map f (range_with_len 1 k)) (sym next) ∙ lists-suc f i ∙ ap (λ (k : ℕ). flat_map f (range_with_len 1 i) ++ f k) next),
    )

-- what one number more adds is passed on
pub Passes-number : (f : ℕ → List ℕ) (i : ℕ) (a b c : Option (List ℕ)) (p q r : List ℕ)
    → Passes a b p q (flat_map f (range_with_len 1 i)) → Passes b c q r (f (i + 1)) → Passes a c p r (flat_map f (range_with_len 1 (i + 1)))
Passes-number f i a b c p q r before one =
    let next : suc i ≡ i + 1 = omega arith in
    let P : List ℕ → Type 0 = λ t. Passes a c p r t in
    let whole : flat_map f (range_with_len 1 i) ++ f (i + 1) ≡ flat_map f (range_with_len 1 (i + 1)) =
    ap (λ (k : ℕ). flat_map f (range_with_len 1 i) ++ f k) (sym next) ∙ sym (lists-suc f i) ∙ ap (λ (k : ℕ). flat_map f (range_with_len 1 k)) next in
    subst P whole (Passes-then a b c p q r _ _ before one)

-- the put of what a number adds failed
pub Passes-number_fails : (f : ℕ → List ℕ) (i n : ℕ) (a b c : Option (List ℕ)) (p q : List ℕ) → i < n
    → Passes a b p q (flat_map f (range_with_len 1 i)) → StopsWithin b c (q ++ f (i + 1)) → StopsWithin a c (p ++ flat_map f (range_with_len 1 n))
Passes-number_fails f i n a b c p q below before front =
    let parts = lists-parts f i n below in
    let P : List ℕ → Type 0 = λ t. StopsWithin a c (p ++ t) in
    subst P (sym parts.1) (StopsWithin-longer a c p _ parts.0 (Passes-stops a b c p q _ _ before front))

-- a range of a list, from either end
pub range-either : {X : Type 0} (from to : ℕ) (xs : List X) → from ≤ to → take (to - from) (drop from xs) ≡ drop from (take to xs)
range-either from to xs within =
    let all : from + (to - from) ≡ to = omega arith in
    sym (drop-take from (to - from) xs) ∙ ap (λ (k : ℕ). drop from (take k xs)) all

-- nothing is passed on
pub Passes-none : (a : Option (List ℕ)) (p : List ℕ) → Passes a a p p []
Passes-none a p = record { sent = []; gained = Appends-none a; parts = append-nil p }

-- a header and rows spell a frame
pub frame-spelled : (plan : Plan) (n first : ℕ) (rows all : List Row) (header : List ℕ) → first ≡ first_carried plan.history n → first ≤ n → all ≡ plan.rows
    → rows ≡ take (n - (first - 1)) (drop (first - 1) all) → header ≡ header_bytes kind.Frame n (length rows) → header ++ rows_bytes rows ≡ spelling (frame plan n)
frame-spelled plan n first rows all header first-is within all-is rows-are header-is =
    let carried : rows ≡ rows_carried plan n =
    rows-are ∙ range-either (first - 1) n all (omega arith) ∙ ap (λ (xs : List Row). drop (first - 1) (take n xs)) all-is
    ∙ ap (λ (k : ℕ). drop (k - 1) (take n plan.rows)) first-is in
    ap (λ (x : List ℕ). x ++ rows_bytes rows) header-is ∙ ap (λ (x : List Row). header_bytes kind.Frame n (length x) ++ rows_bytes x) carried

-- the header alone spells the end
pub end-spelled : (n count : ℕ) (header : List ℕ) → n ≡ count → header ≡ header_bytes kind.End n 0 → header ≡ spelling (End count)
end-spelled n count header n-is header-is =
    header-is ∙ ap (λ (k : ℕ). header_bytes kind.End k 0) n-is ∙ sym (append-nil (header_bytes kind.End count 0))

-- ---- the three parts of a stream, of which one fails or all are written

pub header-fails : (a b : Option (List ℕ)) (p header rest : List ℕ) → p ≡ [] → StopsWithin a b (p ++ header) → StopsWithin a b (header ++ rest)
header-fails a b p header rest empty front =
    StopsWithin-longer a b [] header rest (subst (λ (t : List ℕ). StopsWithin a b (t ++ header)) empty front)

pub frames-fail : (a b c : Option (List ℕ)) (p q header frames rest : List ℕ) → p ≡ [] → Passes a b p q header → StopsWithin b c (q ++ frames)
    → StopsWithin a c (header ++ (frames ++ rest))
frames-fail a b c p q header frames rest empty first front =
    let so_far : StopsWithin a c ([] ++ (header ++ frames)) =
    subst (λ (t : List ℕ). StopsWithin a c (t ++ (header ++ frames))) empty (Passes-stops a b c p q header frames first front) in
    subst (λ (t : List ℕ). StopsWithin a c t) (append_assoc header frames rest) (StopsWithin-longer a c [] (header ++ frames) rest so_far)

all-passed : (a b c : Option (List ℕ)) (p q r header frames : List ℕ) → p ≡ [] → Passes a b p q header → Passes b c q r frames → Passes a c [] r (header ++ frames)
all-passed a b c p q r header frames empty first second =
    subst (λ (t : List ℕ). Passes a c t r (header ++ frames)) empty (Passes-then a b c p q r header frames first second)

pub end-fails : (a b c d : Option (List ℕ)) (p q r header frames end : List ℕ) → p ≡ [] → Passes a b p q header → Passes b c q r frames → StopsWithin c d (r ++ end)
    → StopsWithin a d (header ++ (frames ++ end))
end-fails a b c d p q r header frames end empty first second front =
    subst (λ (t : List ℕ). StopsWithin a d t) (append_assoc header frames end)
    (Passes-stops a c d [] r (header ++ frames) end (all-passed a b c p q r header frames empty first second) front)

pub stream-written : {E : Type 0} (a b c d e : Option (List ℕ)) (p q r s header frames end : List ℕ) (result : Result Unit E) → p ≡ []
    → Passes a b p q header → Passes b c q r frames → Passes c d r s end → WritesText d e result s → WritesText a e result (header ++ (frames ++ end))
stream-written a b c d e p q r s header frames end result empty first second third last =
    let all : Passes a d [] s ((header ++ frames) ++ end) = Passes-then a c d [] r s (header ++ frames) end (all-passed a b c p q r header frames empty first second) third in
    WritesText-finish a d e [] s (header ++ (frames ++ end)) result refl (subst (λ (t : List ℕ). Passes a d [] s t) (append_assoc header frames end) all) last
