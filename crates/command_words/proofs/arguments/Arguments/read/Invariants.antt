use Rattle.std.proofs.Common.{◌≡◌, map, drop}
use Rattle.std.specs.Prelude.{string_bytes}
use Rattle.command_words.specs.Reading.{after, no_arguments}
use Rattle.command_words.specs.Kept.{arguments_of}
use Rattle.command_words.proofs.arguments.Arguments.read.Given as goal

abbrev pub invariant-loop-word : goal.invariant-loop-word
invariant-loop-word l = after (arguments_of l.arguments) (map string_bytes (drop l.word-index l.words)) ≡ after no_arguments (map string_bytes l.words)
