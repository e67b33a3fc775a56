-- After a put that found no memory every file is as before.
use Rattle.std.proofs.Common.{ap, refl}
use Rattle.io_edge.specs.Schedules.{files_held}
use Rattle.io_edge.proofs.mem_files.MemFilesFiles.put.Goals as goal

pub returns-in-Err-clause-failed : goal.returns-in-Err-clause-failed
returns-in-Err-clause-failed c =
    (files_held c.args.self.now, refl, λ other _. ap (λ files. files other) c.in-Err.ensures.failed)
