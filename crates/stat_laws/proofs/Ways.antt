-- How the code of a function under way leaves scopes: it closes at each jump where locals of the function may have cells.
use Rattle.std.specs.Prelude.{ℕ}
use Rattle.code_of.specs.declared.leaving.Leaving.{Leaving}
use Rattle.exp_laws.specs.Setting.{Setting}

abbrev pub way : Setting → (back : ℕ) → Leaving
way S back = record { back = back; closes = S.hidden.celled }
