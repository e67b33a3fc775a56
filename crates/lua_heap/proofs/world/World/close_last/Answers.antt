use Rattle.std.proofs.Common.{◌≡◌, refl, sym, subst, ◌∙◌}
use Rattle.list_laws.proofs.Items.{get_set_same, some_same}
use Rattle.machine_sound.proofs.Lists.{get_within}
use Rattle.lua_heap.specs.declared.world.Coro.{Coro}
use Rattle.lua_heap.specs.declared.world.Coro.TheVariants.{Running}
use Rattle.lua_heap.specs.declared.world.World.{World as Memory}
use Rattle.lua_heap.specs.Cells.{CellsAreListed}
use Rattle.lua_heap.specs.Closing.{ClosesSome, NoneIsOpen, RunsAt}
use Rattle.lua_heap.specs.Plain.{plain}
use Rattle.lua_heap.proofs.Closed.{cell_open, closes_none, kept_world, none_is_open, running_takes, taken_closes, taken_fewer, taken_listed, taken_runs}
use Rattle.lua_heap.proofs.world.World.close_last.Goals as goal

pub returns-in_default-clause-closes : goal.returns-in_default-clause-closes
returns-in_default-clause-closes c fuel =
    let W : Memory = c.args.self.now in
    subst (λ (N : Memory). ClosesSome c.args.co.0 c.args.register (plain W fuel) (plain N fuel)) (kept_world W c.args.co _ c.take_on_top.new.coro c.get_mut.ensures.value c.in_default.ensures.kept) (closes_none c.args.co.0 c.args.register (plain W fuel))

pub returns-in_default-clause-none : goal.returns-in_default-clause-none
returns-in_default-clause-none c ends fuel =
    let W : Memory = c.args.self.now in
    let h = c.requires.there in
    let running : c.get_mut.result.now ≡ Running h.stack = some_same _ _ (sym c.get_mut.ensures.value ∙ h.there) in
    subst (λ (N : Memory). NoneIsOpen c.args.co.0 c.args.register (plain N fuel)) (kept_world W c.args.co _ c.take_on_top.new.coro c.get_mut.ensures.value c.in_default.ensures.kept)
    (none_is_open W fuel c.args.co c.args.register h.stack c.requires.listed h.there (c.in_default.ensures.none h.stack running))

pub returns-in_default-clause-listed : goal.returns-in_default-clause-listed
returns-in_default-clause-listed c = let W : Memory = c.args.self.now in subst CellsAreListed (kept_world W c.args.co _ c.take_on_top.new.coro c.get_mut.ensures.value c.in_default.ensures.kept) c.requires.listed

pub returns-in_default-clause-there : goal.returns-in_default-clause-there
returns-in_default-clause-there c = let W : Memory = c.args.self.now in subst (λ (N : Memory). RunsAt N c.args.co) (kept_world W c.args.co _ c.take_on_top.new.coro c.get_mut.ensures.value c.in_default.ensures.kept) c.requires.there

pub get_mut-requires-2 : goal.get_mut-requires-2
get_mut-requires-2 c =
    let W : Memory = c.args.self.now in
    let h = c.requires.there in
    let o = running_takes W c.args.co c.args.register c.in-Some.cell c.in-Some.value h.stack _ c.take_on_top.new.coro c.get_mut.ensures.value h.there c.in-Some.ensures.taken in
    get_within W.cells.objects c.in-Some.cell.0 _ (cell_open W c.args.co c.args.register c.in-Some.cell c.in-Some.value h.stack c.take_on_top.new.coro c.requires.listed h.there o)

pub returns : goal.returns
returns c =
    let W : Memory = c.args.self.now in
    let h = c.requires.there in
    let d : Coro = c.take_on_top.new.coro in
    let o = running_takes W c.args.co c.args.register c.in-Some.cell c.in-Some.value h.stack _ d c.get_mut.ensures.value h.there c.in-Some.ensures.taken in
    record {
      closes = taken_closes W c.args.co c.args.register c.in-Some.cell c.in-Some.value h.stack d c.requires.listed h.there o;
      none = λ ends. absurd (cc);
      gone = λ ends. absurd (cc);
      fewer = λ more. taken_fewer W c.args.co c.args.register c.in-Some.cell c.in-Some.value h.stack d c.requires.listed h.there o;
      listed = taken_listed W c.args.co c.args.register c.in-Some.cell c.in-Some.value h.stack d c.requires.listed h.there o;
      there = record { stack = o.after; there = taken_runs W c.args.co c.args.register c.in-Some.cell c.in-Some.value h.stack d c.requires.listed h.there o };
      rest = refl;
    }

pub returns-in_default-clause-gone : goal.returns-in_default-clause-gone
returns-in_default-clause-gone c ends stack there =
    let W : Memory = c.args.self.now in
    let h = c.requires.there in
    let now : c.take_on_top.new.coro ≡ Running stack = some_same _ _ (sym (get_set_same W.coros.objects c.args.co.0 (Running h.stack) c.take_on_top.new.coro h.there) ∙ there) in
    c.in_default.ensures.none stack (sym c.in_default.ensures.kept ∙ now)
