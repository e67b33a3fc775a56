use Rattle.std.proofs.Common.{◌≤◌, ◌∙◌, Some, length, ap, ap₂, sym, subst, arith}
use Rattle.graph_core.specs.Permanents.{permanents}
use Rattle.image_records.specs.Names.{entries_of}
use Rattle.lua_heap.specs.Plain.{plain}
use Rattle.eris_read.specs.Unpersist.{code_of}
use Rattle.eris_read.proofs.Knowing.{HaveCode, alike_none, alike_more, alike_all, code_added, code_is, permanent_there, small_there}
use Rattle.eris_read.proofs.known.known_in.Goals as goal

pub loop-at-init : goal.loop-at-init
loop-at-init c = record {
  objects = alike_none _ (permanents c.args.permanents.now) c.new-known.ensures.none;
  codes = subst (HaveCode (plain c.args.world.now 0)) (sym c.new-known.ensures.none) tt;
  environment = c.new-known.ensures.environment;
}

pub value_of-requires : goal.value_of-requires
value_of-requires c = small_there c.args.world.now (permanents c.args.permanents.now) c.requires c.loop-at.at _ _ c.at.ensures

pub code_in-requires : goal.code_in-requires
code_in-requires c = permanent_there c.args.world.now (permanents c.args.permanents.now) c.requires c.loop-at.at _ _ c.at.ensures

pub loop-at-preserved : goal.loop-at-preserved
loop-at-preserved c =
    let V = plain c.args.world.now 0 in
    let code = c.code_in.ensures ∙ ap (code_of V) (sym c.value_of.ensures) in
    record {
      objects = alike_more _ _ _ _ _ c.in_ok-add.ensures.ok (ap₂ (λ o k. Some (record { object = o; key = k })) c.value_of.ensures c.key_of.ensures ∙ c.at.ensures) c.loop-at.invariant.objects;
      codes = subst (HaveCode V) (sym c.in_ok-add.ensures.ok) (code_added V _ _ c.loop-at.invariant.codes code);
      environment = c.add.ensures.environment ∙ c.loop-at.invariant.environment;
    }

pub returns : goal.returns
returns c =
    let V = plain c.args.world.now 0 in
    let l : length (permanents c.args.permanents.now) ≤ c.loop-at.at = omega (arith, c.len-at-end.ensures, c.loop-at-test.false) in
    let objects = alike_all (entries_of c.loop-at.known) (permanents c.args.permanents.now) c.loop-at.at l c.loop-at.invariant.objects in
    record {
      objects = objects;
      codes = λ name. code_is V (entries_of c.loop-at.known) name c.loop-at.invariant.codes ∙ ap (code_of V) (objects name);
      environment = ap (λ id. id.0) c.loop-at.invariant.environment;
    }
