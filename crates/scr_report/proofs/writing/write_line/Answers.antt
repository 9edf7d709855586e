use Rattle.std.proofs.Common.{ℕ, List, [], ◌∷◌, ◌++◌, decimal, subst}
use Rattle.std.proofs.lemmas.Result.{err_from_is_err_and}
use Rattle.std.specs.Io.KnownBytes.{Appends}
use Rattle.scr_base.specs.Streams.{StopsWithin}
use Rattle.scr_report.proofs.Written.{prefix-then, piece-then, piece-fails}
use Rattle.scr_report.proofs.writing.write_line.Goals as goal

pub returns-in_err-put_decimal-clause-text : goal.returns-in_err-put_decimal-clause-text
returns-in_err-put_decimal-clause-text g c =
    let failed = err_from_is_err_and c.from_residual.result c.from_residual.ensures.1 in
    let P : ℕ → Type 0 = λ n. StopsWithin (g.O.Sink.written c.args.out.now) (g.O.Sink.written c.put_decimal.new.out) (decimal n) in
    rw failed.1 (piece-fails _ _ (decimal c.args.number) (32 ∷ (c.args.name.now ++ 10 ∷ [])) (subst P c.into.ensures c.in_err-put_decimal.ensures.text))

pub returns-in_err-put_all-clause-text : goal.returns-in_err-put_all-clause-text
returns-in_err-put_all-clause-text g c =
    let failed = err_from_is_err_and c.from_residual-in_err-put_all.result c.from_residual-in_err-put_all.ensures.1 in
    let P : ℕ → Type 0 = λ n. Appends (g.O.Sink.written c.args.out.now) (g.O.Sink.written c.put_decimal.new.out) (decimal n) in
    rw failed.1 (prefix-then _ _ _ (decimal c.args.number) (32 ∷ (c.args.name.now ++ 10 ∷ [])) (subst P c.into.ensures c.in_ok-put_decimal.ensures.text)
    (piece-fails _ _ (32 ∷ []) (c.args.name.now ++ 10 ∷ []) c.in_err-put_all.ensures.text))

pub returns-in_err-put_all-2-clause-text : goal.returns-in_err-put_all-2-clause-text
returns-in_err-put_all-2-clause-text g c =
    let failed = err_from_is_err_and c.from_residual-in_err-put_all-2.result c.from_residual-in_err-put_all-2.ensures.1 in
    let P : ℕ → Type 0 = λ n. Appends (g.O.Sink.written c.args.out.now) (g.O.Sink.written c.put_decimal.new.out) (decimal n) in
    let Q : List ℕ → Type 0 = λ t. StopsWithin (g.O.Sink.written c.put_all.new.out) (g.O.Sink.written c.put_all-2.new.out) t in
    rw failed.1 (prefix-then _ _ _ (decimal c.args.number) (32 ∷ (c.args.name.now ++ 10 ∷ [])) (subst P c.into.ensures c.in_ok-put_decimal.ensures.text)
    (prefix-then _ _ _ (32 ∷ []) (c.args.name.now ++ 10 ∷ []) c.in_ok-put_all.ensures.text
    (piece-fails _ _ c.args.name.now (10 ∷ []) (subst Q c.as_bytes.ensures.value c.in_err-put_all-2.ensures.text))))

pub returns-clause-text : goal.returns-clause-text
returns-clause-text g c =
    let P : ℕ → Type 0 = λ n. Appends (g.O.Sink.written c.args.out.now) (g.O.Sink.written c.put_decimal.new.out) (decimal n) in
    let Q : List ℕ → Type 0 = λ t. Appends (g.O.Sink.written c.put_all.new.out) (g.O.Sink.written c.put_all-2.new.out) t in
    piece-then _ _ _ (decimal c.args.number) (32 ∷ (c.args.name.now ++ 10 ∷ [])) c.put_all-3.result (subst P c.into.ensures c.in_ok-put_decimal.ensures.text)
    (piece-then _ _ _ (32 ∷ []) (c.args.name.now ++ 10 ∷ []) c.put_all-3.result c.in_ok-put_all.ensures.text
    (piece-then _ _ _ c.args.name.now (10 ∷ []) c.put_all-3.result (subst Q c.as_bytes.ensures.value c.in_ok-put_all-2.ensures.text) c.put_all-3.ensures.text))
