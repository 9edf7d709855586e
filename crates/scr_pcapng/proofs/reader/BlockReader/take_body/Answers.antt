use Rattle.std.proofs.Common.{◌≡◌, ◌+◌, ◌-◌, ◌≤◌, length, IfOk, refl, sym, ap, subst, ◌∙◌, arith}
use Rattle.std.proofs.lemmas.Grind.{common_steps}
use Rattle.std.proofs.lemmas.Result.{err_from_is_err_and}
use Rattle.scr_pcapng.specs.Contents.{IsPlaced, captured_by}
use Rattle.scr_pcapng.specs.Parts.{captured_of, options_size}
use Rattle.scr_pcapng.specs.Blocks.{head_of}
use Rattle.scr_pcapng.proofs.HeadsTaken.{IsFaultOf-from, head_of-most}
use Rattle.scr_pcapng.proofs.Taken.{GivesFewer-then, TakesBytes-from, TakesBytes-then}
use Rattle.scr_pcapng.proofs.BlockTaken.{HasGivenBlock-from, block-few, block-taken, content-refused, length-told, options-within, parts-within, stop-few, stop-told}
use Rattle.scr_pcapng.proofs.reader.BlockReader.take_body.Goals as goal

pub returns-in_err-unit-clause-faulty : goal.returns-in_err-unit-clause-faulty
returns-in_err-unit-clause-faulty g c =
    let head = c.args.head.now in
    let position = c.args.self.now.position in
    let size : length head.bytes ≡ 28 = grind (arith, common_steps) in
    let most = head_of-most head.kind in
    let enough : head_of head.kind ≤ length head.bytes = omega arith in
    let within = options-within head.kind head.total c.requires in
    let fewer = c.in_err-unit.ensures.fewer in
    let p = err_from_is_err_and c.from_residual.result c.from_residual.ensures.1 in
    λ front given. rw (p.1, p.2)
    (stop-told position front _ _ head.kind head.order head.total head.bytes c.number-block.result _ _ given c.requires enough fewer (omega arith)
    c.number-block.ensures c.in_err-unit.ensures.stops)

pub returns-in_err-unit-clause-few : goal.returns-in_err-unit-clause-few
returns-in_err-unit-clause-few g c =
    let head = c.args.head.now in
    let position = c.args.self.now.position in
    let size : length head.bytes ≡ 28 = grind (arith, common_steps) in
    let most = head_of-most head.kind in
    let enough : head_of head.kind ≤ length head.bytes = omega arith in
    let within = options-within head.kind head.total c.requires in
    let fewer = c.in_err-unit.ensures.fewer in
    λ front given. stop-few position front _ _ head.kind head.order head.total head.bytes _ given enough fewer (omega arith)

pub returns-in_err-take_frame-clause-faulty : goal.returns-in_err-take_frame-clause-faulty
returns-in_err-take_frame-clause-faulty g c =
    let head = c.args.head.now in
    let position = c.args.self.now.position in
    let size : length head.bytes ≡ 28 = grind (arith, common_steps) in
    let most = head_of-most head.kind in
    let enough : head_of head.kind ≤ length head.bytes = omega arith in
    let told = c.content-content.ensures in
    let captured = c.captured_of-captured.ensures in
    let within = parts-within position head.kind head.order head.total head.bytes c.in_ok-unit.unit c.content-content.result c.requires told.told told.placed in
    let options = c.in_ok-unit.ensures.taken in
    let fewer = GivesFewer-then _ _ _ _ c.captured_of-captured.result (length options.bytes + c.captured_of-captured.result)
    (TakesBytes-from _ _ options.bytes (length options.bytes) options.taken refl) c.in_err-take_frame.ensures.fewer (omega arith) in
    let options_all = options.all in
    let p = err_from_is_err_and c.from_residual-in_err-take_frame.result c.from_residual-in_err-take_frame.ensures.1 in
    λ front given. rw (p.1, p.2)
    (stop-told position front _ _ head.kind head.order head.total head.bytes c.number-block.result _ _ given c.requires enough fewer (omega arith)
    c.number-block.ensures c.in_err-take_frame.ensures.stops)

pub returns-in_err-take_frame-clause-few : goal.returns-in_err-take_frame-clause-few
returns-in_err-take_frame-clause-few g c =
    let head = c.args.head.now in
    let position = c.args.self.now.position in
    let size : length head.bytes ≡ 28 = grind (arith, common_steps) in
    let most = head_of-most head.kind in
    let enough : head_of head.kind ≤ length head.bytes = omega arith in
    let told = c.content-content.ensures in
    let captured = c.captured_of-captured.ensures in
    let within = parts-within position head.kind head.order head.total head.bytes c.in_ok-unit.unit c.content-content.result c.requires told.told told.placed in
    let options = c.in_ok-unit.ensures.taken in
    let fewer = GivesFewer-then _ _ _ _ c.captured_of-captured.result (length options.bytes + c.captured_of-captured.result)
    (TakesBytes-from _ _ options.bytes (length options.bytes) options.taken refl) c.in_err-take_frame.ensures.fewer (omega arith) in
    let options_all = options.all in
    λ front given. stop-few position front _ _ head.kind head.order head.total head.bytes _ given enough fewer (omega arith)

pub overflow_sub-size-2 : goal.overflow_sub-size-2
overflow_sub-size-2 g c =
    let head = c.args.head.now in
    let position = c.args.self.now.position in
    let told = c.content-content.ensures in
    let captured = c.captured_of-captured.ensures in
    let within = parts-within position head.kind head.order head.total head.bytes c.in_ok-unit.unit c.content-content.result c.requires told.told told.placed in
    let front_size = c.front.ensures in
    omega arith

pub take_tail-requires : goal.take_tail-requires
take_tail-requires g c =
    let head = c.args.head.now in
    let position = c.args.self.now.position in
    let told = c.content-content.ensures in
    let captured = c.captured_of-captured.ensures in
    let within = parts-within position head.kind head.order head.total head.bytes c.in_ok-unit.unit c.content-content.result c.requires told.told told.placed in
    let front_size = c.front.ensures in
    omega arith

pub returns-in_err-second-clause-faulty : goal.returns-in_err-second-clause-faulty
returns-in_err-second-clause-faulty g c =
    let head = c.args.head.now in
    let position = c.args.self.now.position in
    let size : length head.bytes ≡ 28 = grind (arith, common_steps) in
    let most = head_of-most head.kind in
    let enough : head_of head.kind ≤ length head.bytes = omega arith in
    let told = c.content-content.ensures in
    let captured = c.captured_of-captured.ensures in
    let within = parts-within position head.kind head.order head.total head.bytes c.in_ok-unit.unit c.content-content.result c.requires told.told told.placed in
    let options = c.in_ok-unit.ensures.taken in
    let frame = c.take_frame.new.frame in
    let frame_all = c.in_ok-take_frame.ensures.length in
    let front_size = c.front.ensures in
    let options_all = options.all in
    let rest = head.total - c.front.result - c.captured_of-captured.result in
    let before = TakesBytes-then _ _ _ (length options.bytes) (length frame) (length options.bytes + length frame)
    (TakesBytes-from _ _ options.bytes (length options.bytes) options.taken refl)
    (TakesBytes-from _ _ frame (length frame) c.in_ok-take_frame.ensures.taken refl) refl in
    let fewer = GivesFewer-then _ _ _ (length options.bytes + length frame) rest (length options.bytes + length frame + rest) before c.in_err-second.ensures.fewer (omega arith) in
    let p = err_from_is_err_and c.from_residual-in_err-second.result c.from_residual-in_err-second.ensures.1 in
    λ front given. rw (p.1, p.2)
    (stop-told position front _ _ head.kind head.order head.total head.bytes c.number-block.result _ _ given c.requires enough fewer (omega arith)
    c.number-block.ensures c.in_err-second.ensures.stops)

pub returns-in_err-second-clause-few : goal.returns-in_err-second-clause-few
returns-in_err-second-clause-few g c =
    let head = c.args.head.now in
    let position = c.args.self.now.position in
    let size : length head.bytes ≡ 28 = grind (arith, common_steps) in
    let most = head_of-most head.kind in
    let enough : head_of head.kind ≤ length head.bytes = omega arith in
    let told = c.content-content.ensures in
    let captured = c.captured_of-captured.ensures in
    let within = parts-within position head.kind head.order head.total head.bytes c.in_ok-unit.unit c.content-content.result c.requires told.told told.placed in
    let options = c.in_ok-unit.ensures.taken in
    let frame = c.take_frame.new.frame in
    let frame_all = c.in_ok-take_frame.ensures.length in
    let front_size = c.front.ensures in
    let options_all = options.all in
    let rest = head.total - c.front.result - c.captured_of-captured.result in
    let before = TakesBytes-then _ _ _ (length options.bytes) (length frame) (length options.bytes + length frame)
    (TakesBytes-from _ _ options.bytes (length options.bytes) options.taken refl)
    (TakesBytes-from _ _ frame (length frame) c.in_ok-take_frame.ensures.taken refl) refl in
    let fewer = GivesFewer-then _ _ _ (length options.bytes + length frame) rest (length options.bytes + length frame + rest) before c.in_err-second.ensures.fewer (omega arith) in
    λ front given. stop-few position front _ _ head.kind head.order head.total head.bytes _ given enough fewer (omega arith)

pub returns-then-second-head-clause-faulty : goal.returns-then-second-head-clause-faulty
returns-then-second-head-clause-faulty g c =
    let head = c.args.head.now in
    let position = c.args.self.now.position in
    let size : length head.bytes ≡ 28 = grind (arith, common_steps) in
    let most = head_of-most head.kind in
    let enough : head_of head.kind ≤ length head.bytes = omega arith in
    let told = c.content-content.ensures in
    let captured = c.captured_of-captured.ensures in
    let within = parts-within position head.kind head.order head.total head.bytes c.in_ok-unit.unit c.content-content.result c.requires told.told told.placed in
    let options = c.in_ok-unit.ensures.taken in
    let frame = c.take_frame.new.frame in
    let frame_all = c.in_ok-take_frame.ensures.length in
    let front_size = c.front.ensures in
    let rest = head.total - c.front.result - c.captured_of-captured.result in
    let four : 4 ≤ rest = omega arith in
    let sum : head_of head.kind + options_size head.kind head.total + length frame + rest ≡ head.total = omega arith in
    λ front given. IsFaultOf-from position front _ c.length.result _ c.into.ensures c.length.ensures
    (length-told position front _ head.kind head.order head.total head.bytes c.in_ok-unit.unit c.in_ok-second.second frame (HasGivenBlock-from position front _ _ _ _ head.kind head.order head.total head.bytes c.in_ok-unit.unit rest c.in_ok-second.second frame
    given enough options c.in_ok-take_frame.ensures.taken c.in_ok-second.ensures.taken four sum) c.requires c.if-second-head.true)

pub returns-then-second-head-clause-few : goal.returns-then-second-head-clause-few
returns-then-second-head-clause-few g c =
    let head = c.args.head.now in
    let position = c.args.self.now.position in
    let size : length head.bytes ≡ 28 = grind (arith, common_steps) in
    let most = head_of-most head.kind in
    let enough : head_of head.kind ≤ length head.bytes = omega arith in
    let told = c.content-content.ensures in
    let captured = c.captured_of-captured.ensures in
    let within = parts-within position head.kind head.order head.total head.bytes c.in_ok-unit.unit c.content-content.result c.requires told.told told.placed in
    let options = c.in_ok-unit.ensures.taken in
    let frame = c.take_frame.new.frame in
    let frame_all = c.in_ok-take_frame.ensures.length in
    let front_size = c.front.ensures in
    let rest = head.total - c.front.result - c.captured_of-captured.result in
    let four : 4 ≤ rest = omega arith in
    let sum : head_of head.kind + options_size head.kind head.total + length frame + rest ≡ head.total = omega arith in
    λ front given. block-few position front _ head.kind head.order head.total head.bytes c.in_ok-unit.unit c.in_ok-second.second frame (HasGivenBlock-from position front _ _ _ _ head.kind head.order head.total head.bytes c.in_ok-unit.unit rest c.in_ok-second.second frame
    given enough options c.in_ok-take_frame.ensures.taken c.in_ok-second.ensures.taken four sum)

pub returns-in_err-content-clause-faulty : goal.returns-in_err-content-clause-faulty
returns-in_err-content-clause-faulty g c =
    let head = c.args.head.now in
    let position = c.args.self.now.position in
    let size : length head.bytes ≡ 28 = grind (arith, common_steps) in
    let most = head_of-most head.kind in
    let enough : head_of head.kind ≤ length head.bytes = omega arith in
    let told = c.content-content.ensures in
    let captured = c.captured_of-captured.ensures in
    let within = parts-within position head.kind head.order head.total head.bytes c.in_ok-unit.unit c.content-content.result c.requires told.told told.placed in
    let options = c.in_ok-unit.ensures.taken in
    let frame = c.take_frame.new.frame in
    let frame_all = c.in_ok-take_frame.ensures.length in
    let front_size = c.front.ensures in
    let rest = head.total - c.front.result - c.captured_of-captured.result in
    let four : 4 ≤ rest = omega arith in
    let sum : head_of head.kind + options_size head.kind head.total + length frame + rest ≡ head.total = omega arith in
    let p = err_from_is_err_and c.from_residual-in_err-content.result c.from_residual-in_err-content.ensures.1 in
    λ front given. rw (p.1, p.2)
    (content-refused position front _ head.kind head.order head.total head.bytes c.in_ok-unit.unit c.in_ok-second.second frame c.in_err-content.field-0.0 (HasGivenBlock-from position front _ _ _ _ head.kind head.order head.total head.bytes c.in_ok-unit.unit rest c.in_ok-second.second frame
    given enough options c.in_ok-take_frame.ensures.taken c.in_ok-second.ensures.taken four sum) c.requires c.if-second-head.false (sym c.in_err-content.was ∙ told.told))

pub returns-in_err-content-clause-few : goal.returns-in_err-content-clause-few
returns-in_err-content-clause-few g c =
    let head = c.args.head.now in
    let position = c.args.self.now.position in
    let size : length head.bytes ≡ 28 = grind (arith, common_steps) in
    let most = head_of-most head.kind in
    let enough : head_of head.kind ≤ length head.bytes = omega arith in
    let told = c.content-content.ensures in
    let captured = c.captured_of-captured.ensures in
    let within = parts-within position head.kind head.order head.total head.bytes c.in_ok-unit.unit c.content-content.result c.requires told.told told.placed in
    let options = c.in_ok-unit.ensures.taken in
    let frame = c.take_frame.new.frame in
    let frame_all = c.in_ok-take_frame.ensures.length in
    let front_size = c.front.ensures in
    let rest = head.total - c.front.result - c.captured_of-captured.result in
    let four : 4 ≤ rest = omega arith in
    let sum : head_of head.kind + options_size head.kind head.total + length frame + rest ≡ head.total = omega arith in
    λ front given. block-few position front _ head.kind head.order head.total head.bytes c.in_ok-unit.unit c.in_ok-second.second frame (HasGivenBlock-from position front _ _ _ _ head.kind head.order head.total head.bytes c.in_ok-unit.unit rest c.in_ok-second.second frame
    given enough options c.in_ok-take_frame.ensures.taken c.in_ok-second.ensures.taken four sum)

pub returns-clause-taken : goal.returns-clause-taken
returns-clause-taken g c =
    let head = c.args.head.now in
    let position = c.args.self.now.position in
    let size : length head.bytes ≡ 28 = grind (arith, common_steps) in
    let most = head_of-most head.kind in
    let enough : head_of head.kind ≤ length head.bytes = omega arith in
    let told = c.content-content.ensures in
    let captured = c.captured_of-captured.ensures in
    let within = parts-within position head.kind head.order head.total head.bytes c.in_ok-unit.unit c.content-content.result c.requires told.told told.placed in
    let options = c.in_ok-unit.ensures.taken in
    let frame = c.take_frame.new.frame in
    let frame_all = c.in_ok-take_frame.ensures.length in
    let front_size = c.front.ensures in
    let rest = head.total - c.front.result - c.captured_of-captured.result in
    let four : 4 ≤ rest = omega arith in
    let sum : head_of head.kind + options_size head.kind head.total + length frame + rest ≡ head.total = omega arith in
    let is = c.in_ok-content.was in
    let placed : IsPlaced (head_of head.kind) head.total c.in_ok-content.field-0 = subst (λ x. IfOk x (IsPlaced (head_of head.kind) head.total)) is told.placed in
    let sized : captured_by c.in_ok-content.field-0 ≡ length frame = sym (frame_all ∙ captured ∙ ap captured_of is) in
    λ front given. block-taken position front _ head.kind head.order head.total head.bytes c.in_ok-unit.unit c.in_ok-second.second frame c.in_ok-content.field-0 (HasGivenBlock-from position front _ _ _ _ head.kind head.order head.total head.bytes c.in_ok-unit.unit rest c.in_ok-second.second frame
    given enough options c.in_ok-take_frame.ensures.taken c.in_ok-second.ensures.taken four sum) c.requires c.if-second-head.false (sym is ∙ told.told) placed sized

pub returns-clause-few : goal.returns-clause-few
returns-clause-few g c =
    let head = c.args.head.now in
    let position = c.args.self.now.position in
    let size : length head.bytes ≡ 28 = grind (arith, common_steps) in
    let most = head_of-most head.kind in
    let enough : head_of head.kind ≤ length head.bytes = omega arith in
    let told = c.content-content.ensures in
    let captured = c.captured_of-captured.ensures in
    let within = parts-within position head.kind head.order head.total head.bytes c.in_ok-unit.unit c.content-content.result c.requires told.told told.placed in
    let options = c.in_ok-unit.ensures.taken in
    let frame = c.take_frame.new.frame in
    let frame_all = c.in_ok-take_frame.ensures.length in
    let front_size = c.front.ensures in
    let rest = head.total - c.front.result - c.captured_of-captured.result in
    let four : 4 ≤ rest = omega arith in
    let sum : head_of head.kind + options_size head.kind head.total + length frame + rest ≡ head.total = omega arith in
    λ front given. block-few position front _ head.kind head.order head.total head.bytes c.in_ok-unit.unit c.in_ok-second.second frame (HasGivenBlock-from position front _ _ _ _ head.kind head.order head.total head.bytes c.in_ok-unit.unit rest c.in_ok-second.second frame
    given enough options c.in_ok-take_frame.ensures.taken c.in_ok-second.ensures.taken four sum)
