-- What is kept of frames, told by the number of rows that are kept.
use Rattle.std.proofs.Common.{◌≡◌, ℕ, ◌+◌, ◌-◌, ◌<◌, ◌≤◌, Bool, List, [], ◌∷◌, ◌++◌, length, ap, ◌∙◌, arith}
use Rattle.std.specs.Prelude.{map, unwrap_or}
use Rattle.std.specs.List.{list_any, range_with_len, slice_get}
use Rattle.std.proofs.lemmas.List.FromFn.{length-map-range_with_len}
use Rattle.scr_base.specs.declared.row.Row.{Row}
use Rattle.scr_stream.specs.Frames.{StreamFrame, carried_row, row_in, last_number}
use Rattle.scr_stream.specs.Tests.{rows_due, clash, differs}
use Rattle.scr_stream.specs.Reading.{Follows, no_row, rows_from, missing_from}
use Rattle.scr_stream.specs.Taken.{StandsFor}
use Rattle.scr_stream.proofs.Differing.{differs-by_kept}
use Rattle.scr_stream.proofs.FrameAdded.{frame-added, numbers-added}

module _ (history : ℕ) (frames : List StreamFrame) (rows : List Row) (missing : List ℕ) (count : ℕ) (stands : StandsFor history frames rows missing count) where
  -- a row is kept for each packet up to the last frame's
  pub kept-length : length rows ≡ last_number frames
  kept-length =
      ap length stands.rows_are
      ∙ length-map-range_with_len (λ (p : ℕ). unwrap_or (row_in frames p) no_row) 1 (last_number frames)

  -- what differs from the rows kept differs from the frames
  pub differs-kept : (it : StreamFrame) → length rows < it.number → length it.rows ≡ rows_due history it.number
      → list_any (λ p. clash (slice_get rows (p - 1)) (carried_row it p))
      (range_with_len (it.number + 1 - length it.rows) (length rows + 1 - (it.number + 1 - length it.rows))) ≡ differs frames it
  differs-kept it later due =
      let first : ℕ = it.number + 1 - length it.rows in
      let g : ℕ → Bool = λ p. clash (slice_get rows (p - 1)) (carried_row it p) in
      let size = kept-length in
      ap (λ (n : ℕ). list_any g (range_with_len first (n + 1 - first))) size
      ∙ differs-by_kept history frames rows missing count first it stands (omega arith) (omega arith) (omega arith) (omega arith)

  -- a frame more is kept
  pub frame-kept : (it : StreamFrame) → Follows history frames it → (new_rows : List Row) (new_missing : List ℕ) (new_count : ℕ)
      → new_rows ≡ rows ++ map (λ p. unwrap_or (carried_row it p) no_row) (range_with_len (length rows + 1) (it.number - length rows))
      → new_missing ≡ missing ++ range_with_len (length rows + 1) (it.number - (length rows + 1)) → new_count ≡ count + 1
      → StandsFor history (frames ++ it ∷ []) new_rows new_missing new_count
  frame-kept it follows new_rows new_missing new_count rows_are missing_are count_is =
      let size = kept-length in
      frame-added history frames it rows missing count stands follows new_rows new_missing new_count
      (rows_are ∙ ap (λ (n : ℕ). rows ++ map (λ p. unwrap_or (carried_row it p) no_row) (range_with_len (n + 1) (it.number - n))) size)
      (missing_are ∙ ap (λ (n : ℕ). missing ++ range_with_len (n + 1) (it.number - (n + 1))) size)
      count_is

  -- numbers without a frame are kept
  pub numbers-kept : (n : ℕ) → length rows ≤ n → (new_rows : List Row) (new_missing : List ℕ)
      → new_rows ≡ rows ++ map (λ p. no_row) (range_with_len (length rows + 1) (n - length rows))
      → new_missing ≡ missing ++ range_with_len (length rows + 1) (n - length rows)
      → (new_rows ≡ rows_from frames n) × (new_missing ≡ missing_from frames n)
  numbers-kept n within new_rows new_missing rows_are missing_are =
      let size = kept-length in
      numbers-added history frames rows missing count n stands (omega arith) new_rows new_missing
      (rows_are ∙ ap (λ (k : ℕ). rows ++ map (λ p. no_row) (range_with_len (k + 1) (n - k))) size)
      (missing_are ∙ ap (λ (k : ℕ). missing ++ range_with_len (k + 1) (n - k)) size)
