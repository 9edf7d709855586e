-- The threads of the cores.
use Rattle.std.specs.Prelude.{◌≡◌, ℕ}
use Rattle.std.specs.declared.thread.PromisedHandle.{PromisedHandle}
use Rattle.scr_plan.specs.Plan.{Plan}
use Rattle.scr_crew.specs.declared.work.Work.{Work}

-- the thread of this core, which runs under these settings over this plan
pub record IsThread {P Settings State Answer : Type 0} (settings : Settings) (plan : Plan) (core : ℕ) (thread : PromisedHandle Answer (Work P Settings State)) : Type 0 where
  pub its_settings : thread.promise.settings.value ≡ settings
  pub its_plan : thread.promise.plan.value ≡ plan
  pub its_core : thread.promise.core ≡ core
