-- The budget, and what is printed, are no part of what makes a world sound.
use Rattle.std.proofs.Common.{ℕ, List, refl}
use Rattle.machine_core.specs.World.{World}
use Rattle.machine_sound.specs.Sound.{sizes, Solid, Rests, idle, on_top, all_wait, Sound}
use Rattle.machine_sound.proofs.Grow.{grows_self, roots_on}
use Rattle.machine_sound.proofs.Tops.{same_top}

pub solid_budget : (n : ℕ) (W : World) (printed : List ℕ) (fuel : ℕ) → Solid n W → Solid n (record W { printed = printed; fuel = fuel })
solid_budget n W printed fuel s =
    record { tables = s.tables; functions = s.functions; cells = s.cells; one_each = s.one_each; coroutines = s.coroutines; chain = s.chain; moving = s.moving; roots = roots_on (sizes n W) (sizes n W) (grows_self (sizes n W)) W (record W { printed = printed; fuel = fuel }) s.roots refl refl refl refl refl refl }

rests_budget : (n : ℕ) (W : World) (printed : List ℕ) (fuel : ℕ) → Rests n W → Rests n (record W { printed = printed; fuel = fuel })
rests_budget n W printed fuel (idle e) = idle e
rests_budget n W printed fuel (on_top s) =
    let t = s.top in
    let h = s.is_top in
    on_top (record { top = t; is_top = same_top n t W (record W { printed = printed; fuel = fuel }) h t.pending t.cells t.captured h.last h.frames h.there h.below h.pending h.cells h.captured h.wait; fits = s.fits })
rests_budget n W printed fuel (all_wait w) = all_wait (record { coroutine = w.coroutine; frames = w.frames; last = w.last; running = w.running; waits = w.waits })

pub sound_refuelled : (n fuel : ℕ) (W : World) → Sound n W → Sound n (record W { fuel = fuel })
sound_refuelled n fuel W s = record { solid = solid_budget n W W.printed fuel s.solid; rests = rests_budget n W W.printed fuel s.rests }
