use Rattle.std.proofs.Common.{rules}
use Rattle.source_builds.proofs.Knowing.{read_all}
use Rattle.program.proofs.call.carry_out.Goals as goal

-- a check and a compilation load nothing

pub returns-in_err-check_file-in-Check-clause-call : goal.returns-in_err-check_file-in-Check-clause-call
returns-in_err-check_file-in-Check-clause-call g c = read_all (λ builds sources. search rules)

pub returns-in_ok-check_file-in-Check-clause-call : goal.returns-in_ok-check_file-in-Check-clause-call
returns-in_ok-check_file-in-Check-clause-call g c = read_all (λ builds sources. search rules)

pub returns-in_err-compile_file-in-Compile-clause-call : goal.returns-in_err-compile_file-in-Compile-clause-call
returns-in_err-compile_file-in-Compile-clause-call g c = read_all (λ builds sources. search rules)

pub returns-in_ok-compile_file-in-Compile-clause-call : goal.returns-in_ok-compile_file-in-Compile-clause-call
returns-in_ok-compile_file-in-Compile-clause-call g c = read_all (λ builds sources. search rules)
