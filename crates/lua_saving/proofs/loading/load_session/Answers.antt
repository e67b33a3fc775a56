use Rattle.std.proofs.Common.{rules, ◌≡◌, List, Result, Err, subst, sym}
use Rattle.std.specs.Prelude.{IfErr}
use Rattle.code_core.specs.Prototype.{list_of}
use Rattle.lua_meaning.specs.Opening.{prelude_of}
use Rattle.image_reading.specs.declared.fault.ReadFault.{ReadFault}
use Rattle.image_reading.specs.declared.fault.ReadFault.TheVariants.{Memory as NoMemory}
use Rattle.table_core.specs.declared.value.Value.{Value as Kept}
use Rattle.lua_heap.specs.declared.world.World.{World as Memory}
use Rattle.graph_core.specs.Permanents.{permanents}
use Rattle.lua_opening.proofs.SoundOpening.{opened}
use Rattle.lua_saving.specs.Saving.{AreThere, IsRefused, no_memory, TakesRoots, IsNoSession}
use Rattle.lua_saving.proofs.Resumed.{may_read, refusal, roots_there, no_session, goes_on, session}
use Rattle.lua_saving.proofs.loading.load_session.Goals as goal

pub unpersist-requires : goal.unpersist-requires
unpersist-requires c =
    let W : Memory = c.in_ok-world.world in
    let o = opened c.args.prelude W c.in_ok-world.ensures.plain c.in_ok-world.ensures.codes c.in_ok-world.ensures.listed in
    may_read c.args.prelude W o c.requires (permanents c.in_ok-permanents.permanents) c.in_ok-permanents.ensures c.sessions_are_sound.ensures.opening c.sessions_are_sound.ensures.idle c.rules_hold.ensures

pub returns-in_err-world-clause-refused : goal.returns-in_err-world-clause-refused
returns-in_err-world-clause-refused c =
    let made : c.from_residual.result ≡ Err NoMemory = search rules in
    subst (λ (r : Result Memory ReadFault). IfErr r (λ fault. IsRefused (prelude_of (list_of c.args.prelude.inner)) c.args.image.now fault)) (sym made) no_memory

pub returns-in_err-permanents-clause-refused : goal.returns-in_err-permanents-clause-refused
returns-in_err-permanents-clause-refused c =
    let made : c.from_residual-in_err-permanents.result ≡ Err NoMemory = search rules in
    subst (λ (r : Result Memory ReadFault). IfErr r (λ fault. IsRefused (prelude_of (list_of c.args.prelude.inner)) c.args.image.now fault)) (sym made) no_memory

pub returns-clause-refused : goal.returns-clause-refused
returns-clause-refused c =
    let W : Memory = c.in_ok-world.world in
    let o = opened c.args.prelude W c.in_ok-world.ensures.plain c.in_ok-world.ensures.codes c.in_ok-world.ensures.listed in
    refusal c.args.prelude W o c.requires (permanents c.in_ok-permanents.permanents) c.in_ok-permanents.ensures c.sessions_are_sound.ensures.opening c.sessions_are_sound.ensures.idle c.rules_hold.ensures c.args.image.now c.in-Err.fault c.in-Err.ensures.refused

pub take_roots-requires : goal.take_roots-requires
take_roots-requires c =
    let W : Memory = c.in_ok-world.world in
    let o = opened c.args.prelude W c.in_ok-world.ensures.plain c.in_ok-world.ensures.codes c.in_ok-world.ensures.listed in
    let same : c.as_slice.result.now ≡ c.in-Ok.values.items = search rules in
    record {
      there = subst (AreThere c.unpersist.new.world) (sym same) (roots_there c.args.prelude W o c.requires (permanents c.in_ok-permanents.permanents) c.in_ok-permanents.ensures c.sessions_are_sound.ensures.opening c.sessions_are_sound.ensures.idle c.rules_hold.ensures c.unpersist.new.world c.args.image.now c.in-Ok.values.items c.in-Ok.ensures.loaded);
    }

pub returns-then-take_roots : goal.returns-then-take_roots
returns-then-take_roots c =
    let W : Memory = c.in_ok-world.world in
    let o = opened c.args.prelude W c.in_ok-world.ensures.plain c.in_ok-world.ensures.codes c.in_ok-world.ensures.listed in
    let same : c.as_slice.result.now ≡ c.in-Ok.values.items = search rules in
    let takes : TakesRoots c.unpersist.new.world c.take_roots.new.world c.as_slice.result.now = search rules in
    let its : TakesRoots c.unpersist.new.world c.take_roots.new.world c.in-Ok.values.items = subst (TakesRoots c.unpersist.new.world c.take_roots.new.world) same takes in
    record {
      session = session c.args.prelude W o c.requires (permanents c.in_ok-permanents.permanents) c.in_ok-permanents.ensures c.sessions_are_sound.ensures.opening c.sessions_are_sound.ensures.idle c.rules_hold.ensures c.unpersist.new.world c.args.image.now c.in-Ok.values.items c.in-Ok.ensures.loaded c.take_roots.new.world its;
      may = goes_on c.args.prelude W o c.requires (permanents c.in_ok-permanents.permanents) c.in_ok-permanents.ensures c.sessions_are_sound.ensures.opening c.sessions_are_sound.ensures.idle c.rules_hold.ensures c.unpersist.new.world c.args.image.now c.in-Ok.values.items c.in-Ok.ensures.loaded c.take_roots.new.world its;
      yielded = takes.waits;
      refused = tt;
    }

pub returns-in-Ok-clause-refused : goal.returns-in-Ok-clause-refused
returns-in-Ok-clause-refused c =
    let W : Memory = c.in_ok-world.world in
    let o = opened c.args.prelude W c.in_ok-world.ensures.plain c.in_ok-world.ensures.codes c.in_ok-world.ensures.listed in
    let same : c.as_slice.result.now ≡ c.in-Ok.values.items = search rules in
    let none : IsNoSession c.unpersist.new.world c.as_slice.result.now = search rules in
    no_session c.args.prelude W o c.requires (permanents c.in_ok-permanents.permanents) c.in_ok-permanents.ensures c.sessions_are_sound.ensures.opening c.sessions_are_sound.ensures.idle c.rules_hold.ensures c.unpersist.new.world c.args.image.now c.in-Ok.values.items c.in-Ok.ensures.loaded
    (subst (IsNoSession c.unpersist.new.world) same none)
