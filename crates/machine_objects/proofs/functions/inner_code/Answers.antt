use Rattle.std.proofs.Common.{ap, sym, subst, ◌∙◌}
use Rattle.std.specs.Prelude.{IsSome, slice_get}
use Rattle.code_core.specs.Check.{IsChecked}
use Rattle.code_core.specs.Prototype.{Prototype, list_of}
use Rattle.lua_heap.specs.Codes.{functions}
use Rattle.machine_moves.proofs.OfCode.{top_code_is}
use Rattle.machine_objects.proofs.functions.inner_code.Goals as goal

pub function_on_top-requires : goal.function_on_top-requires
function_on_top-requires c = record { place = c.requires.there.place; is = c.requires.there.is }

pub inner-requires : goal.inner-requires
inner-requires c =
    let e = top_code_is c.args.world.now c.requires.there.place c.function_on_top.result.now c.requires.there.is c.function_on_top.ensures in
    record {
      codes = c.requires.order.codes;
      there = c.checked_code_is_there.ensures (functions c.args.world.now.codes) c.function_on_top.result.now.code.0 (subst IsChecked (sym e) c.requires.there.checked);
      place = subst (λ (q : Prototype). IsSome (slice_get (list_of q.inner) c.args.inner)) (sym (top_code_is c.args.world.now c.requires.there.place c.function_on_top.result.now c.requires.there.is c.function_on_top.ensures)) c.requires.there.there;
    }

pub returns : goal.returns
returns c = record {
  place = c.requires.there.place;
  is = c.requires.there.is;
  same = c.inner.ensures.function ∙ ap (λ (q : Prototype). slice_get (list_of q.inner) c.args.inner) (top_code_is c.args.world.now c.requires.there.place c.function_on_top.result.now c.requires.there.is c.function_on_top.ensures);
}
