-- What a frame does at its word.
use Rattle.instruction_forms.specs.declared.form.Form.TheVariants.{Call, Concatenate, NewFunction, TailCall}
use Rattle.running_frame.specs.declared.place.Here.{Here}
use Rattle.lua_driver.specs.declared.words.Quick.{Quick}
use Rattle.lua_driver.specs.declared.words.Quick.TheVariants.{Calls, TailCalls, Returns, Makes, Concats, Other}
use Rattle.lua_driver.specs.Here.{RunsHere}
use Rattle.lua_driver.specs.Returning.{ReturnsFew}

-- what is told of the word is so: it is an instruction of that form
abbrev pub IsQuick : Here → Quick → Type 0
IsQuick here (Calls at) = RunsHere here (Call at.function at.count at.keeps at.iterates)
IsQuick here (TailCalls function count) = RunsHere here (TailCall function count)
IsQuick here (Returns count) = ReturnsFew here count
IsQuick here (Makes inner to) = RunsHere here (NewFunction inner to)
IsQuick here (Concats first count) = RunsHere here (Concatenate first count)
IsQuick here Other = Unit {0}
