-- What a sink gains by one line after another, and by one piece of a line after another.
use Rattle.std.proofs.Common.{◌≡◌, ℕ, ◌+◌, ◌<◌, ◌≤◌, List, [], ◌∷◌, ◌++◌, All, length, get_or, map, take, Bool, true, false, cond, Option, Result, Ok, Err, arith, refl, sym, ap, ◌∙◌, subst, append_assoc, take_all, zero-add}
use Rattle.std.specs.List.{concat, flat_map, enumerate_from, zip}
use Rattle.std.specs.Io.KnownBytes.{Appends}
use Rattle.std.proofs.lemmas.List.Elements.{All-nil}
use Rattle.std.proofs.lemmas.List.FromFn.{get_or-enumerate_from}
use Rattle.std.proofs.lemmas.Slice.Zip.{get_or-zip}
use Rattle.scr_base.specs.Streams.{StopsWithin, Passes, WritesText, BatchesText}
use Rattle.scr_base.proofs.Streams.{Appends-then, Passes-stops, StopsWithin-longer, BatchesText-then}
use Rattle.scr_base.proofs.Pieces.{Passes-more, Passes-fails}
use Rattle.scr_report.specs.Text.{frames_line, core_line, flows_line, total_line}
use Rattle.scr_report.specs.Outcome.{Outcome, counter_lines}

pub concat-append : (xs ys : List (List ℕ)) → concat (xs ++ ys) ≡ concat xs ++ concat ys
concat-append [] ys = refl
concat-append (x ∷ xs) ys = ap (λ (t : List ℕ). x ++ t) (concat-append xs ys) ∙ sym (append_assoc x (concat xs) (concat ys))

pub concat-map : {X : Type 0} (f : X → List ℕ) (xs : List X) → concat (map f xs) ≡ flat_map f xs
concat-map f [] = refl
concat-map f (x ∷ xs) = ap (λ (t : List ℕ). f x ++ t) (concat-map f xs)

-- the lines of a list: one more of them is put; the put of one failed; all are put
pub line-more : {X : Type 0} (f : X → List ℕ) (xs : List X) (i : ℕ) (d x : X) (a b c : Option (List ℕ)) (p q r : List ℕ) → i < length xs → x ≡ get_or xs i d
    → Passes a b p q (flat_map f (take i xs)) → Passes b c q r (f x) → Passes a c p r (flat_map f (take (i + 1) xs))
line-more {X} f xs i d x a b c p q r below is before one =
    let P : X → Type 0 = λ z. Passes b c q r (f z) in
    Passes-more f xs i d a b c p q r below before (subst P is one)

pub line-fails : {X : Type 0} (f : X → List ℕ) (xs : List X) (i : ℕ) (d x : X) (a b c : Option (List ℕ)) (p q : List ℕ) → i < length xs → x ≡ get_or xs i d
    → Passes a b p q (flat_map f (take i xs)) → StopsWithin b c (q ++ f x) → StopsWithin a c (p ++ concat (map f xs))
line-fails {X} f xs i d x a b c p q below is before front =
    let P : X → Type 0 = λ z. StopsWithin b c (q ++ f z) in
    let Q : List ℕ → Type 0 = λ t. StopsWithin a c (p ++ t) in
    subst Q (sym (concat-map f xs)) (Passes-fails f xs i d a b c p q below before (subst P is front))

pub lines-all : {X : Type 0} (f : X → List ℕ) (xs : List X) (i : ℕ) (a b : Option (List ℕ)) (p q : List ℕ) → length xs ≤ i
    → Passes a b p q (flat_map f (take i xs)) → Passes a b p q (concat (map f xs))
lines-all {X} f xs i a b p q above before =
    let P : List ℕ → Type 0 = λ t. Passes a b p q t in
    subst P (ap (flat_map f) (take_all i xs above) ∙ sym (concat-map f xs)) before

-- two texts, the first of which is put, or fails
pub two-fail : (xs ys : List (List ℕ)) (a b : Option (List ℕ)) (p : List ℕ) → StopsWithin a b (p ++ concat xs) → StopsWithin a b (p ++ concat (xs ++ ys))
two-fail xs ys a b p front =
    let P : List ℕ → Type 0 = λ t. StopsWithin a b (p ++ t) in
    subst P (sym (concat-append xs ys)) (StopsWithin-longer a b p (concat xs) (concat ys) front)

pub two-put : {E : Type 0} (xs ys : List (List ℕ)) (a b c : Option (List ℕ)) (p q r : List ℕ) (result : Result Unit E) → Passes a b p q (concat xs)
    → BatchesText b c q r result (concat ys) → BatchesText a c p r result (concat (xs ++ ys))
two-put xs ys a b c p q r result first second =
    let P : List ℕ → Type 0 = λ t. BatchesText a c p r result t in
    subst P (sym (concat-append xs ys)) (BatchesText-then a b c p q r (concat xs) (concat ys) result first second)

-- the counters: what each of its four parts leaves where it fails, and what all of them leave
counters-are : (names : List (List ℕ)) (r : Outcome) → concat (counter_lines names r)
    ≡ frames_line r.frames r.delivered r.kept
    ++ (concat (map core_line (enumerate_from 0 r.cores)) ++ (flows_line r.flows ++ concat (map total_line (zip names r.totals))))
counters-are names r =
    ap (λ (t : List ℕ). frames_line r.frames r.delivered r.kept ++ t)
    (concat-append (map core_line (enumerate_from 0 r.cores)) (flows_line r.flows ∷ map total_line (zip names r.totals)))

pub counters-put : {E : Type 0} (names : List (List ℕ)) (r : Outcome) (a b c d e : Option (List ℕ)) (p q s t u : List ℕ) (result : Result Unit E)
    → Passes a b p q (frames_line r.frames r.delivered r.kept) → Passes b c q s (concat (map core_line (enumerate_from 0 r.cores)))
    → Passes c d s t (flows_line r.flows) → BatchesText d e t u result (concat (map total_line (zip names r.totals)))
    → BatchesText a e p u result (concat (counter_lines names r))
counters-put names r a b c d e p q s t u result fs cs fl ts =
    let P : List ℕ → Type 0 = λ text. BatchesText a e p u result text in
    let cores : List ℕ = concat (map core_line (enumerate_from 0 r.cores)) in
    let totals : List ℕ = concat (map total_line (zip names r.totals)) in
    subst P (sym (counters-are names r))
    (BatchesText-then a b e p q u (frames_line r.frames r.delivered r.kept) (cores ++ (flows_line r.flows ++ totals)) result fs
    (BatchesText-then b c e q s u cores (flows_line r.flows ++ totals) result cs
    (BatchesText-then c d e s t u (flows_line r.flows) totals result fl ts)))

pub frames-fail : (names : List (List ℕ)) (r : Outcome) (a b : Option (List ℕ)) (p : List ℕ) → StopsWithin a b (p ++ frames_line r.frames r.delivered r.kept)
    → StopsWithin a b (p ++ concat (counter_lines names r))
frames-fail names r a b p front =
    let P : List ℕ → Type 0 = λ text. StopsWithin a b (p ++ text) in
    subst P (sym (counters-are names r)) (StopsWithin-longer a b p (frames_line r.frames r.delivered r.kept) _ front)

pub cores-fail : (names : List (List ℕ)) (r : Outcome) (a b c : Option (List ℕ)) (p q : List ℕ) → Passes a b p q (frames_line r.frames r.delivered r.kept)
    → StopsWithin b c (q ++ concat (map core_line (enumerate_from 0 r.cores))) → StopsWithin a c (p ++ concat (counter_lines names r))
cores-fail names r a b c p q fs front =
    let P : List ℕ → Type 0 = λ text. StopsWithin a c (p ++ text) in
    let cores : List ℕ = concat (map core_line (enumerate_from 0 r.cores)) in
    let totals : List ℕ = concat (map total_line (zip names r.totals)) in
    subst P (sym (counters-are names r))
    (Passes-stops a b c p q (frames_line r.frames r.delivered r.kept) (cores ++ (flows_line r.flows ++ totals)) fs
    (StopsWithin-longer b c q cores (flows_line r.flows ++ totals) front))

pub flows-fail : (names : List (List ℕ)) (r : Outcome) (a b c d : Option (List ℕ)) (p q s : List ℕ) → Passes a b p q (frames_line r.frames r.delivered r.kept)
    → Passes b c q s (concat (map core_line (enumerate_from 0 r.cores))) → StopsWithin c d (s ++ flows_line r.flows)
    → StopsWithin a d (p ++ concat (counter_lines names r))
flows-fail names r a b c d p q s fs cs front =
    let P : List ℕ → Type 0 = λ text. StopsWithin a d (p ++ text) in
    let cores : List ℕ = concat (map core_line (enumerate_from 0 r.cores)) in
    let totals : List ℕ = concat (map total_line (zip names r.totals)) in
    subst P (sym (counters-are names r))
    (Passes-stops a b d p q (frames_line r.frames r.delivered r.kept) (cores ++ (flows_line r.flows ++ totals)) fs
    (Passes-stops b c d q s cores (flows_line r.flows ++ totals) cs
    (StopsWithin-longer c d s (flows_line r.flows) totals front)))

-- what holds of all verdicts holds of those that are chosen
pub All-chosen : {X : Type 0} (P : X → Type 0) (b : Bool) (xs : List X) → All P xs → All P (cond b xs [])
All-chosen P true xs all = all
All-chosen P false xs all = All-nil P

-- a piece of a line that was written, and the next one
pub prefix-then : (a b c : Option (List ℕ)) (x y : List ℕ) → Appends a b x → StopsWithin b c y → StopsWithin a c (x ++ y)
prefix-then a b c x y first second = record {
  sent = x ++ second.sent;
  rest = second.rest;
  gained = Appends-then a b c x second.sent first second.gained;
  parts = ap (λ (t : List ℕ). x ++ t) second.parts ∙ sym (append_assoc x second.sent second.rest);
  outstanding = second.outstanding;
}

pub piece-then : {E : Type 0} (a b c : Option (List ℕ)) (x y : List ℕ) (result : Result Unit E) → Appends a b x → WritesText b c result y
    → WritesText a c result (x ++ y)
piece-then a b c x y (Ok u) first second = Appends-then a b c x y first second
piece-then a b c x y (Err e) first second = prefix-then a b c x y first second

pub piece-fails : (a b : Option (List ℕ)) (x y : List ℕ) → StopsWithin a b x → StopsWithin a b (x ++ y)
piece-fails a b x y front = StopsWithin-longer a b [] x y front

-- an item with its place, and a name with its total
pub enumerated : {X : Type 0} (xs : List X) (i : ℕ) (d : X) → i < length xs → (i, get_or xs i d) ≡ get_or (enumerate_from 0 xs) i (0, d)
enumerated {X} xs i d below =
    let at : get_or (enumerate_from 0 xs) i (0, d) ≡ (0 + i, get_or xs i d) = get_or-enumerate_from 0 xs i (0, d) below in
    sym (at ∙ ap (λ (n : ℕ). (n, get_or xs i d)) (zero-add i))

pub zipped : (names : List (List ℕ)) (totals : List ℕ) (i : ℕ) → length totals ≡ length names → i < length totals
    → (get_or names i [], get_or totals i 0) ≡ get_or (zip names totals) i ([], 0)
zipped names totals i all below = sym (get_or-zip names totals i ([], 0) (omega arith) below)
