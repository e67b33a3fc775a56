use Rattle.std.proofs.Common.{◌≡◌, ◌+◌, ◌-◌, ◌^◌}
use Rattle.io_edge.specs.Lines.{ahead}
use Rattle.step_laws.specs.Turns.{MayGoOn}
use Rattle.loaded_code.specs.Laws.{library}
use Rattle.source_builds.specs.Readings.{AsRead}
use Rattle.lua_feed.proofs.Fed.{Feeding}
use Rattle.lua_feed.proofs.feeding.feed.Given as goal

abbrev pub invariant-turns : goal.invariant-turns
invariant-turns g l = record {
  so_far : AsRead (λ builds. Feeding (library builds) l.budget l.initial.world (ahead l.initial.reader (g.S.Source.left l.initial.input)) (g.K.Sink.written l.initial.out) l.initial.reader.taken
      l.world (ahead l.reader (g.S.Source.left l.input)) (g.K.Sink.written l.out) l.reader.taken);
  may : MayGoOn l.world;
  read : g.S.Source.faults l.input ≡ g.S.Source.faults l.initial.input;
  wrote : g.K.Sink.faults l.out ≡ g.K.Sink.faults l.initial.out;
}

abbrev pub decreases-turns : goal.decreases-turns
decreases-turns g l = 2 ^ 30 + 1 - l.reader.taken
