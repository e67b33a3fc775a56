use Rattle.std.proofs.Common.{◌≡◌, ◌++◌, drop}
use Rattle.std.specs.List.{flat_map}
use Rattle.library_rows.specs.Codepoints.{encode}
use Rattle.lib_utf8.proofs.characters.encoded.Given as goal

abbrev pub invariant-loop-code : goal.invariant-loop-code
invariant-loop-code l = l.text ++ flat_map encode (drop l.code-index l.codes) ≡ flat_map encode l.codes
