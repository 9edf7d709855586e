use Rattle.std.proofs.Common.{◌≡◌, true, ℕ, ◌≤◌, length, take, refl, sym, ap, subst, ◌∙◌, arith}
use Rattle.std.proofs.lemmas.Grind.{common_steps}
use Rattle.std.proofs.lemmas.List.{length-take-le}
use Rattle.std.proofs.lemmas.Result.{err_from_is_err_and}
use Rattle.std.specs.Io.KnownBytes.{Consumes}
use Rattle.scr_pcapng.specs.declared.error.AnyError.TheVariants.{Ng}
use Rattle.scr_pcapng.specs.Blocks.{front_of, head_of, is_total, kind_in, kind_of}
use Rattle.scr_pcapng.specs.State.{BlockReaderState}
use Rattle.scr_pcapng.proofs.Heads.{is_total-least}
use Rattle.scr_pcapng.proofs.HeadsTaken.{IsFaultOf-from, at_most, at_most-then, cut-behind_head, cut-behind_kind, cut-in_front, front_of-most, head_of-most, head_of-within, head-told, kind-told, odd, unmarked}
use Rattle.scr_pcapng.proofs.reader.BlockReader.take_head.Goals as goal

pub returns-in_err-fill_on-clause-few : goal.returns-in_err-fill_on-clause-few
returns-in_err-fill_on-clause-few g c = λ front begun.
    let source = g.S.Source in
    let position = c.args.self.now.position in
    let within : 8 ≤ length c.args.begun = grind (arith, common_steps) in
    let is_front = c.front-front.ensures in
    let bound = front_of-most c.of-kind.result in
    at_most-then _ _ _ c.args.begun 8 _ 28 begun within c.in_err-fill_on.ensures.fewer (omega arith)

pub returns-then-branch-front-clause-faulty : goal.returns-then-branch-front-clause-faulty
returns-then-branch-front-clause-faulty g c = λ front begun.
    let source = g.S.Source in
    let position = c.args.self.now.position in
    let within : 8 ≤ length c.args.begun = grind (arith, common_steps) in
    let kind : c.of-kind.result ≡ kind_in position c.args.begun =
    c.of-kind.ensures ∙ ap kind_of c.u32_at.ensures ∙ ap (λ (reader : BlockReaderState). kind_in reader.position c.args.begun) c.self.view_is in
    let told = kind-told position front _ c.args.begun 8 c.of-kind.result begun (omega arith) within kind in
    let more = c.in_ok-fill_on.ensures in
    let taken = more.taken front begun in
    let within_front : c.in_ok-fill_on.field-0 ≤ length c.fill_on.new.buf = grind (arith, common_steps) in
    let is_front = c.front-front.ensures in
    let short = c.if-branch-front.true in
    let some = more.within.0 in
    IsFaultOf-from position _ _ c.cut.result _ c.into.ensures c.cut.ensures
    (cut-in_front _ _ _ c.fill_on.new.buf c.in_ok-fill_on.field-0 c.requires taken (more.end short) (omega arith) within_front
    (cut-behind_kind position _ c.in_ok-fill_on.field-0 c.of-kind.result told (omega arith)))

pub returns-in_err-order-clause-faulty : goal.returns-in_err-order-clause-faulty
returns-in_err-order-clause-faulty g c = λ front begun.
    let source = g.S.Source in
    let position = c.args.self.now.position in
    let within : 8 ≤ length c.args.begun = grind (arith, common_steps) in
    let kind : c.of-kind.result ≡ kind_in position c.args.begun =
    c.of-kind.ensures ∙ ap kind_of c.u32_at.ensures ∙ ap (λ (reader : BlockReaderState). kind_in reader.position c.args.begun) c.self.view_is in
    let told = kind-told position front _ c.args.begun 8 c.of-kind.result begun (omega arith) within kind in
    let more = c.in_ok-fill_on.ensures in
    let taken = more.taken front begun in
    let within_front : c.in_ok-fill_on.field-0 ≤ length c.fill_on.new.buf = grind (arith, common_steps) in
    let is_front = c.front-front.ensures in
    let all_front = c.if-branch-front.false in
    let most_front = more.within.1 in
    let size : c.in_ok-fill_on.field-0 ≡ front_of c.of-kind.result = omega arith in
    let refused = c.in_err-order.ensures in
    let p = err_from_is_err_and c.from_residual-in_err-order.result c.from_residual-in_err-order.ensures.1 in
    rw (p.1, p.2) (IsFaultOf-from position front (Ng c.in_err-order.field-0.0) c.in_err-order.field-0.0 _ refl refused.1
    (unmarked position front _ c.fill_on.new.buf c.in_ok-fill_on.field-0 c.of-kind.result c.requires taken size within_front told refused.0))

pub returns-then-not-is_total-clause-faulty : goal.returns-then-not-is_total-clause-faulty
returns-then-not-is_total-clause-faulty g c = λ front begun.
    let source = g.S.Source in
    let position = c.args.self.now.position in
    let within : 8 ≤ length c.args.begun = grind (arith, common_steps) in
    let kind : c.of-kind.result ≡ kind_in position c.args.begun =
    c.of-kind.ensures ∙ ap kind_of c.u32_at.ensures ∙ ap (λ (reader : BlockReaderState). kind_in reader.position c.args.begun) c.self.view_is in
    let told = kind-told position front _ c.args.begun 8 c.of-kind.result begun (omega arith) within kind in
    let more = c.in_ok-fill_on.ensures in
    let taken = more.taken front begun in
    let within_front : c.in_ok-fill_on.field-0 ≤ length c.fill_on.new.buf = grind (arith, common_steps) in
    let is_front = c.front-front.ensures in
    let all_front = c.if-branch-front.false in
    let most_front = more.within.1 in
    let size : c.in_ok-fill_on.field-0 ≡ front_of c.of-kind.result = omega arith in
    let head = head-told position front _ c.fill_on.new.buf c.in_ok-fill_on.field-0 c.of-kind.result c.in_ok-order.order c.u32_at-total.result c.requires
    taken size within_front told c.in_ok-order.ensures c.u32_at-total.ensures in
    IsFaultOf-from position _ _ c.length.result _ c.into-then-not-is_total.ensures c.length.ensures
    (odd position front c.of-kind.result c.in_ok-order.order c.u32_at-total.result head (sym c.is_total.ensures ∙ c.if-not-is_total.true))

pub returns-in_err-fill_on-2-clause-few : goal.returns-in_err-fill_on-2-clause-few
returns-in_err-fill_on-2-clause-few g c = λ front begun.
    let source = g.S.Source in
    let position = c.args.self.now.position in
    let within : 8 ≤ length c.args.begun = grind (arith, common_steps) in
    let kind : c.of-kind.result ≡ kind_in position c.args.begun =
    c.of-kind.ensures ∙ ap kind_of c.u32_at.ensures ∙ ap (λ (reader : BlockReaderState). kind_in reader.position c.args.begun) c.self.view_is in
    let told = kind-told position front _ c.args.begun 8 c.of-kind.result begun (omega arith) within kind in
    let more = c.in_ok-fill_on.ensures in
    let taken = more.taken front begun in
    let within_front : c.in_ok-fill_on.field-0 ≤ length c.fill_on.new.buf = grind (arith, common_steps) in
    let is_front = c.front-front.ensures in
    let all_front = c.if-branch-front.false in
    let most_front = more.within.1 in
    let size : c.in_ok-fill_on.field-0 ≡ front_of c.of-kind.result = omega arith in
    let is_head = c.head-size.ensures in
    let bound = head_of-most c.of-kind.result in
    let twelve = front_of-most c.of-kind.result in
    at_most-then _ _ _ c.fill_on.new.buf c.in_ok-fill_on.field-0 _ 28 taken within_front c.in_err-fill_on-2.ensures.fewer (omega arith)

pub returns-then-branch-size-clause-faulty : goal.returns-then-branch-size-clause-faulty
returns-then-branch-size-clause-faulty g c = λ front begun.
    let source = g.S.Source in
    let position = c.args.self.now.position in
    let within : 8 ≤ length c.args.begun = grind (arith, common_steps) in
    let kind : c.of-kind.result ≡ kind_in position c.args.begun =
    c.of-kind.ensures ∙ ap kind_of c.u32_at.ensures ∙ ap (λ (reader : BlockReaderState). kind_in reader.position c.args.begun) c.self.view_is in
    let told = kind-told position front _ c.args.begun 8 c.of-kind.result begun (omega arith) within kind in
    let more = c.in_ok-fill_on.ensures in
    let taken = more.taken front begun in
    let within_front : c.in_ok-fill_on.field-0 ≤ length c.fill_on.new.buf = grind (arith, common_steps) in
    let is_front = c.front-front.ensures in
    let all_front = c.if-branch-front.false in
    let most_front = more.within.1 in
    let size : c.in_ok-fill_on.field-0 ≡ front_of c.of-kind.result = omega arith in
    let head = head-told position front _ c.fill_on.new.buf c.in_ok-fill_on.field-0 c.of-kind.result c.in_ok-order.order c.u32_at-total.result c.requires
    taken size within_front told c.in_ok-order.ensures c.u32_at-total.ensures in
    let is : is_total c.of-kind.result c.u32_at-total.result ≡ true = sym c.is_total.ensures ∙ c.if-not-is_total.false in
    let last = c.in_ok-fill_on-2.ensures in
    let is_head = c.head-size.ensures in
    let same_front : c.in_ok-fill_on.field-0 ≡ c.front-front.result = omega arith in
    let taken_head = last.taken front (subst (λ (n : ℕ). Consumes front (source.left c.fill_on.new.source) (take n c.fill_on.new.buf)) same_front taken) in
    let within_head : c.in_ok-fill_on-2.field-0 ≤ length c.fill_on-2.new.buf = grind (arith, common_steps) in
    let short = c.if-branch-size.true in
    let all = length-take-le c.in_ok-fill_on-2.field-0 c.fill_on-2.new.buf within_head in
    let some_behind = head_of-within c.of-kind.result in
    let enough_total = is_total-least c.of-kind.result c.u32_at-total.result is in
    IsFaultOf-from position _ _ c.cut-then-branch-size.result _ c.into-then-branch-size.ensures c.cut-then-branch-size.ensures
    (cut-behind_head position front _ (take c.in_ok-fill_on-2.field-0 c.fill_on-2.new.buf) c.of-kind.result c.in_ok-order.order c.u32_at-total.result head is
    taken_head (last.end short) (omega arith))

pub returns-then-branch-size-clause-few : goal.returns-then-branch-size-clause-few
returns-then-branch-size-clause-few g c = λ front begun.
    let source = g.S.Source in
    let position = c.args.self.now.position in
    let within : 8 ≤ length c.args.begun = grind (arith, common_steps) in
    let kind : c.of-kind.result ≡ kind_in position c.args.begun =
    c.of-kind.ensures ∙ ap kind_of c.u32_at.ensures ∙ ap (λ (reader : BlockReaderState). kind_in reader.position c.args.begun) c.self.view_is in
    let told = kind-told position front _ c.args.begun 8 c.of-kind.result begun (omega arith) within kind in
    let more = c.in_ok-fill_on.ensures in
    let taken = more.taken front begun in
    let within_front : c.in_ok-fill_on.field-0 ≤ length c.fill_on.new.buf = grind (arith, common_steps) in
    let is_front = c.front-front.ensures in
    let all_front = c.if-branch-front.false in
    let most_front = more.within.1 in
    let size : c.in_ok-fill_on.field-0 ≡ front_of c.of-kind.result = omega arith in
    let last = c.in_ok-fill_on-2.ensures in
    let is_head = c.head-size.ensures in
    let same_front : c.in_ok-fill_on.field-0 ≡ c.front-front.result = omega arith in
    let taken_head = last.taken front (subst (λ (n : ℕ). Consumes front (source.left c.fill_on.new.source) (take n c.fill_on.new.buf)) same_front taken) in
    let within_head : c.in_ok-fill_on-2.field-0 ≤ length c.fill_on-2.new.buf = grind (arith, common_steps) in
    let bound = head_of-most c.of-kind.result in
    let within_size = last.within.1 in
    at_most _ _ c.fill_on-2.new.buf c.in_ok-fill_on-2.field-0 28 taken_head within_head (omega arith)

pub returns-clause-given : goal.returns-clause-given
returns-clause-given g c = λ front begun.
    let source = g.S.Source in
    let position = c.args.self.now.position in
    let within : 8 ≤ length c.args.begun = grind (arith, common_steps) in
    let kind : c.of-kind.result ≡ kind_in position c.args.begun =
    c.of-kind.ensures ∙ ap kind_of c.u32_at.ensures ∙ ap (λ (reader : BlockReaderState). kind_in reader.position c.args.begun) c.self.view_is in
    let told = kind-told position front _ c.args.begun 8 c.of-kind.result begun (omega arith) within kind in
    let more = c.in_ok-fill_on.ensures in
    let taken = more.taken front begun in
    let within_front : c.in_ok-fill_on.field-0 ≤ length c.fill_on.new.buf = grind (arith, common_steps) in
    let is_front = c.front-front.ensures in
    let all_front = c.if-branch-front.false in
    let most_front = more.within.1 in
    let size : c.in_ok-fill_on.field-0 ≡ front_of c.of-kind.result = omega arith in
    let head = head-told position front _ c.fill_on.new.buf c.in_ok-fill_on.field-0 c.of-kind.result c.in_ok-order.order c.u32_at-total.result c.requires
    taken size within_front told c.in_ok-order.ensures c.u32_at-total.ensures in
    let last = c.in_ok-fill_on-2.ensures in
    let is_head = c.head-size.ensures in
    let same_front : c.in_ok-fill_on.field-0 ≡ c.front-front.result = omega arith in
    let taken_head = last.taken front (subst (λ (n : ℕ). Consumes front (source.left c.fill_on.new.source) (take n c.fill_on.new.buf)) same_front taken) in
    let within_head : c.in_ok-fill_on-2.field-0 ≤ length c.fill_on-2.new.buf = grind (arith, common_steps) in
    let whole = c.if-branch-size.false in
    let most_size = last.within.1 in
    let size_head : c.in_ok-fill_on-2.field-0 ≡ head_of c.of-kind.result = omega arith in
    record {
      is = head;
      taken = subst (λ (n : ℕ). Consumes front (source.left c.fill_on-2.new.source) (take n c.fill_on-2.new.buf)) size_head taken_head;
    }

pub returns-clause-few : goal.returns-clause-few
returns-clause-few g c = λ front begun.
    let source = g.S.Source in
    let position = c.args.self.now.position in
    let within : 8 ≤ length c.args.begun = grind (arith, common_steps) in
    let kind : c.of-kind.result ≡ kind_in position c.args.begun =
    c.of-kind.ensures ∙ ap kind_of c.u32_at.ensures ∙ ap (λ (reader : BlockReaderState). kind_in reader.position c.args.begun) c.self.view_is in
    let told = kind-told position front _ c.args.begun 8 c.of-kind.result begun (omega arith) within kind in
    let more = c.in_ok-fill_on.ensures in
    let taken = more.taken front begun in
    let within_front : c.in_ok-fill_on.field-0 ≤ length c.fill_on.new.buf = grind (arith, common_steps) in
    let is_front = c.front-front.ensures in
    let all_front = c.if-branch-front.false in
    let most_front = more.within.1 in
    let size : c.in_ok-fill_on.field-0 ≡ front_of c.of-kind.result = omega arith in
    let last = c.in_ok-fill_on-2.ensures in
    let is_head = c.head-size.ensures in
    let same_front : c.in_ok-fill_on.field-0 ≡ c.front-front.result = omega arith in
    let taken_head = last.taken front (subst (λ (n : ℕ). Consumes front (source.left c.fill_on.new.source) (take n c.fill_on.new.buf)) same_front taken) in
    let within_head : c.in_ok-fill_on-2.field-0 ≤ length c.fill_on-2.new.buf = grind (arith, common_steps) in
    let bound = head_of-most c.of-kind.result in
    let within_size = last.within.1 in
    at_most _ _ c.fill_on-2.new.buf c.in_ok-fill_on-2.field-0 28 taken_head within_head (omega arith)
