-- A safe row does not trap: once for all rows.
use Rattle.std.proofs.Common.{◌++◌, Option, Some, None, subst, sym, length}
use Rattle.std.specs.Prelude.{drop}
use Rattle.machine_core.specs.Moves.{Told, traps, stop, only, act, trapped, Made, run}
use Rattle.machine_sound.specs.Sound.{sizes, Valid}
use Rattle.machine_sound.specs.Safe.{leads, Good, MovesGood, RowsGood}
use Rattle.machine_sound.proofs.Lists.{each_drop}
use Rattle.machine_sound.proofs.Ends.{end_is}

pub rows_good : MovesGood → RowsGood
rows_good all n traps x env W i s = absurd s
rows_good all n (stop e) x env W i s = (i.solid, end_is n e x W i.solid i.phase s)
rows_good all n (only slot r) x env W i s =
    rows_good all n r x (drop slot env) W (record { solid = i.solid; phase = i.phase; valid = each_drop (Valid (sizes n W)) slot env i.valid }) s
rows_good all n (act m k) x env W i s =
    let g = all n m x env W i s.0 in
    let l = leads x env m g.event in
    let r = rows_good all n (k (length env) l.told) l.phase (env ++ l.values) g.world g.holds (s.1 g.event) in
    subst (λ (o : Option (Made (Told m))). Good n (elim o [ None ↦ trapped | Some d ↦ run (k (length env) d.told) (env ++ d.values) d.world ])) (sym g.is) r
