use Rattle.std.proofs.Common.{◌≡◌, ℕ, Some, rules, refl, sym}
use Rattle.std.specs.Prelude.{slice_set}
use Rattle.int_core.specs.Value.{last}
use Rattle.machine_sound.proofs.Lists.{get_within}
use Rattle.lua_stack.specs.Frames.{cell_at, top_number}
use Rattle.table_core.specs.declared.value.CoroId.{CoroId}
use Rattle.lua_heap.specs.declared.world.Coro.{Coro}
use Rattle.lua_heap.specs.declared.world.Coro.TheVariants.{Running}
use Rattle.lua_heap.specs.declared.world.World.{World as Memory}
use Rattle.lua_heap.specs.Plain.{plain}
use Rattle.lua_heap.proofs.Captured.{old_found, old_plain}
use Rattle.lua_heap.proofs.OpenedCell.{opens_cell, refused_lists, refused_means, runs_as, top_runs}
use Rattle.lua_heap.proofs.world.World.open_cell.Goals as goal

pub returns-in-Some : goal.returns-in-Some
returns-in-Some c =
    let W : Memory = c.args.self.now in
    let co : CoroId = c.unwrap-co.result in
    let top : last W.chain.items ≡ Some co = search rules in
    let h = c.requires.there in
    let runs = top_runs W co c.args.register h top in
    let found : cell_at (top_number h.stack) c.args.register h.stack.open_cells ≡ Some c.in-Some.id = sym (c.in-Some.ensures h.stack (runs_as W co c.args.register h top _ c.get.ensures)) in
    record {
      opened = λ fuel s e. old_plain W co h.stack top runs fuel s e c.requires.listed c.args.register c.in-Some.id found;
      found = λ fuel s e. old_found W co h.stack top runs fuel s e c.requires.listed c.args.register c.in-Some.id found;
      listed = c.requires.listed;
      rest = refl;
      err = tt;
    }

pub get_mut-requires : goal.get_mut-requires
get_mut-requires c =
    let W : Memory = c.args.self.now in
    let co : CoroId = c.unwrap-co.result in
    let top : last W.chain.items ≡ Some co = search rules in
    get_within W.coros.objects co.0 (Running c.requires.there.stack) (top_runs W co c.args.register c.requires.there top)

pub returns-in_err-frame-clause-listed : goal.returns-in_err-frame-clause-listed
returns-in_err-frame-clause-listed c =
    let W : Memory = c.args.self.now in
    let co : CoroId = c.unwrap-co.result in
    let top : last W.chain.items ≡ Some co = search rules in
    refused_lists W co c.args.register c.requires.there top (record W { cells = c.reserve.new.self; coros = record W.coros { objects = slice_set W.coros.objects co.0 c.open_on_top.new.coro } }) c.open_on_top.new.coro _
    c.get_mut.ensures.value c.in_err-frame.ensures.err c.requires.listed c.reserve.ensures.objects refl

pub returns-in_err-frame-clause-err : goal.returns-in_err-frame-clause-err
returns-in_err-frame-clause-err c =
    let W : Memory = c.args.self.now in
    let co : CoroId = c.unwrap-co.result in
    let top : last W.chain.items ≡ Some co = search rules in
    let new : Memory = record W { cells = c.reserve.new.self; coros = record W.coros { objects = slice_set W.coros.objects co.0 c.open_on_top.new.coro } } in
    let k : (fuel : ℕ) → plain new fuel ≡ plain W fuel =
    refused_means W co c.args.register c.requires.there top new c.open_on_top.new.coro _ c.get_mut.ensures.value c.in_err-frame.ensures.err refl c.reserve.ensures.objects refl in
    search (rules, k)

pub returns : goal.returns
returns c =
    let W : Memory = c.args.self.now in
    let co : CoroId = c.unwrap-co.result in
    let top : last W.chain.items ≡ Some co = search rules in
    let d : Coro = c.open_on_top.new.coro in
    let new : Memory = record W { cells = c.place.new.self; coros = record W.coros { objects = slice_set W.coros.objects co.0 d } } in
    let o = opens_cell W co c.args.register c.requires.there top new d _ _ (record { 0 = c.len.result }) c.in_ok-frame.frame _ c.requires.listed c.get.ensures
    (λ stack is. c.in_default.ensures stack is) c.get_mut.ensures.value c.in_ok-frame.ensures.opened c.reserve.ensures.objects c.len.ensures c.place.ensures.appended.objects refl refl in
    record { opened = o.opens; found = o.finds; listed = o.lists; rest = refl; err = tt }
