-- As many places are met as are counted.
use Rattle.std.proofs.Common.{◌∙◌, length, sym, ap}
use Rattle.scr_flows.specs.Order.{Places}
use Rattle.scr_flows.proofs.Leads.{length-walk}
use Rattle.scr_flows.proofs.order.Order.len.Goals as goal

pub returns : goal.returns
returns c = sym (length-walk c.self.inside.older.items c.self.inside.end c.self.inside.len) ∙ ap (λ (p : Places). length p.places) c.self.view_is
