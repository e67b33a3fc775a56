-- A world whose values on their way were taken.
use Rattle.std.proofs.Common.{◌≡◌, ℕ, List, [], Option, Some, None, Result, Ok, Err, ap, sym, subst, ◌∙◌}
use Rattle.std.specs.Prelude.{map, OnErr}
use Rattle.std.specs.Global.{Vec}
use Rattle.int_core.specs.Value.{Value}
use Rattle.machine_core.specs.World.{World}
use Rattle.machine_core.specs.Moves.{take_moving, Made}
use Rattle.machine_sound.specs.Sound.{Each, sizes, Valid, Settled, StackWaits, Rests, idle, on_top, all_wait, Sound}
use Rattle.machine_sound.proofs.Lists.{each_none}
use Rattle.machine_sound.proofs.Waits.{with_moving, moving_solid, moving_waits}
use Rattle.machine_sound.proofs.Calls.{fuel_top}
use Rattle.table_core.specs.declared.value.Value.{Value as Kept}
use Rattle.lua_heap.specs.declared.world.World.{World as Memory}
use Rattle.lua_heap.specs.Cells.{CellsAreListed}
use Rattle.lua_heap.specs.Codes.{AreCodes}
use Rattle.lua_heap.specs.Plain.{plain}
use Rattle.lua_heap.specs.Reading.{value}
use Rattle.pure_functions.specs.Answers.{Stands, OnlyStrings}
use Rattle.move_laws.specs.Memory.{Makes, InOrder, IsSound, ReadsSame}

-- what moves is no part of what makes a world sound but for being valid

pub sound_moved : (n : ℕ) (W : World) (vs : List Value) → Sound n W → Each (Valid (sizes n W)) vs → Sound n (with_moving W vs W.fuel)
sound_moved n W vs s h = record { solid = moving_solid n W vs W.fuel s.solid h; rests = by s.rests }
  where
    by : Rests n W → Rests n (with_moving W vs W.fuel)
    by (idle e) = idle e
    by (on_top t) = on_top (record { top = t.top; is_top = fuel_top n t.top W vs W.fuel s.solid t.is_top h; fits = t.fits })
    by (all_wait w) = all_wait (moving_waits n W vs W.fuel w)

-- the world is as before, but that nothing moves
pub record Taken (old taken : Memory) (arguments : List Kept) : Type 0 where
  pub rest : taken ≡ record old { moving = taken.moving }
  pub items : arguments ≡ old.moving.items
  pub plain : (fuel : ℕ) → plain taken fuel ≡ record (plain old fuel) { moving = [] }
  pub makes : (env : List Value) → Makes old taken take_moving env (map (value old.strings) arguments) tt

world_in : World → Option (Made (Unit {0})) → World
world_in W None = W
world_in W (Some d) = d.world

pub taken_is : (old taken : Memory) (vs arguments : List Kept) → arguments ≡ vs → taken ≡ record old { moving = taken.moving } → vs ≡ old.moving.items
    → ((env : List Value) → Makes old taken take_moving env (map (value old.strings) vs) tt) → Taken old taken arguments
unfolding world_in
taken_is old taken vs arguments same rest items makes = record {
  rest = rest;
  items = same ∙ items;
  plain = λ fuel. sym (ap (world_in (plain old fuel)) ((makes []).is fuel));
  makes = λ env. subst (λ vs. Makes old taken take_moving env (map (value old.strings) vs) tt) (sym same) (makes env);
}

pub stands : (old taken : Memory) (arguments : List Kept) → IsSound old → Taken old taken arguments → Stands taken arguments
stands old taken arguments s t =
    let n = s.primitives in
    let W = plain old 0 in
    let values : map (value taken.strings) arguments ≡ W.moving = ap (λ (M : Memory). map (value M.strings) arguments) t.rest ∙ ap (map (value old.strings)) t.items in
    record {
      primitives = n;
      fuel = 0;
      sound = subst (Sound n) (sym (t.plain 0)) (sound_moved n W [] s.sound (each_none (Valid (sizes n W))));
      valid = subst (λ V. Each (Valid (sizes n V)) (map (value taken.strings) arguments)) (sym (t.plain 0)) (subst (λ vs. Each (Valid (sizes n W)) vs) (sym values) s.sound.solid.moving);
    }

-- what was taken moves again
pub moves_again : (old taken new : Memory) (arguments : List Kept) (m : Vec Kept) → m.items ≡ arguments → Taken old taken arguments → OnlyStrings taken new arguments → ReadsSame old (record new { moving = m })
moves_again old taken new arguments m e t o = record {
  is = λ fuel.
      ap (λ vs. record (plain new fuel) { moving = map (value new.strings) vs }) e
      ∙ ap (λ vs. record (plain new fuel) { moving = vs }) (o.read ∙ ap (λ (M : Memory). map (value M.strings) arguments) t.rest ∙ ap (map (value old.strings)) t.items)
      ∙ ap (λ (W : World). record W { moving = (plain old fuel).moving }) (o.plain fuel ∙ t.plain fuel);
}

-- so does what was taken where nothing was done
pub moves_back : (old taken : Memory) (arguments : List Kept) (m : Vec Kept) → m.items ≡ arguments → Taken old taken arguments → ReadsSame old (record taken { moving = m })
moves_back old taken arguments m e t = record {
  is = λ fuel.
      ap (λ vs. record (plain taken fuel) { moving = map (value taken.strings) vs }) e
      ∙ ap (λ vs. record (plain taken fuel) { moving = vs }) (ap (λ (M : Memory). map (value M.strings) arguments) t.rest ∙ ap (map (value old.strings)) t.items)
      ∙ ap (λ (W : World). record W { moving = (plain old fuel).moving }) (t.plain fuel);
}

pub order_back : (old taken : Memory) (m : Vec Kept) → InOrder old → taken ≡ record old { moving = taken.moving } → InOrder (record taken { moving = m })
order_back old taken m i e = record {
  codes = subst (λ (M : Memory). AreCodes M.strings M.codes) (sym e) i.codes;
  listed = subst CellsAreListed (sym e) i.listed;
}

pub order_again : (old taken new : Memory) (arguments : List Kept) (m : Vec Kept) → InOrder old → Taken old taken arguments → OnlyStrings taken new arguments → InOrder (record new { moving = m })
order_again old taken new arguments m i t o = in_order old taken new arguments i t o.codes (o.rest)
  where
    in_order : (old taken new : Memory) (arguments : List Kept) → InOrder old → Taken old taken arguments → (AreCodes taken.strings taken.codes → AreCodes new.strings new.codes) → new ≡ record taken { strings = new.strings } → InOrder (record new { moving = m })
    in_order old taken new arguments i t codes rest = record {
      codes = codes (subst (λ (M : Memory). AreCodes M.strings M.codes) (sym t.rest) i.codes);
      listed = subst CellsAreListed (sym rest) (subst CellsAreListed (sym t.rest) i.listed);
    }

pub sound_again : (old taken new : Memory) (arguments : List Kept) (m : Vec Kept) → m.items ≡ arguments → IsSound old → Taken old taken arguments → OnlyStrings taken new arguments → IsSound (record new { moving = m })
sound_again old taken new arguments m e s t o = record {
  primitives = s.primitives;
  sound = subst (Sound s.primitives) (sym ((moves_again old taken new arguments m e t o).is 0)) s.sound;
  order = order_again old taken new arguments m s.order t o;
}

pub on_err : {A E P : Type 0} → (r : Result A E) → P → OnErr r P
on_err (Ok x) p = tt
on_err (Err e) p = p
