-- What is kept of words.
use Rattle.std.specs.Prelude.{ℕ, List, [], ◌∷◌, option_map}
use Rattle.command_words.specs.Words.{Command, run, resume, check, compile, work}
use Rattle.command_words.specs.Reading.{Arguments}
use Rattle.command_words.specs.declared.command.Command.{Command as Asked}
use Rattle.command_words.specs.declared.command.Command.TheVariants.{Run, Resume, Check, Compile, Work}
use Rattle.command_words.specs.declared.arguments.Arguments.{Arguments as Kept}
use Rattle.command_words.specs.declared.arguments.Files.{Files}
use Rattle.command_words.specs.declared.arguments.Files.TheVariants.{Unnamed, One, Two}

abbrev pub asked : Asked → Command
asked (Run file budget save) = run file.now budget (option_map (λ image. image.now) save)
asked (Resume image budget save) = resume image.now budget (option_map (λ image. image.now) save)
asked (Check file) = check file.now
asked (Compile script chunk strip) = compile script.now chunk.now strip
asked (Work count) = work count

abbrev pub names_of : Files → List (List ℕ)
names_of Unnamed = []
names_of (One file) = file.now ∷ []
names_of (Two first second) = first.now ∷ second.now ∷ []

abbrev pub arguments_of : Kept → Arguments
arguments_of a = record { files = names_of a.files; budget = a.budget; save = option_map (λ image. image.now) a.save; strip = a.strip; next = a.next }
