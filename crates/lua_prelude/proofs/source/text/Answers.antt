use Rattle.std.proofs.Common.{refl}
use Rattle.library_rows.specs.PreludeText.{prelude_text}
use Rattle.lua_prelude.proofs.source.text.Goals as goal

pub returns : goal.returns
unfolding prelude_text
returns c = record { text = refl }
