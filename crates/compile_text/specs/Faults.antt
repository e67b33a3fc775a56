-- How the faults of the front are handed on.
use Rattle.lua_lex.specs.declared.source.LexFault.{LexFault}
use Rattle.lua_lex.specs.declared.source.LexFault.TheVariants.{Refused as LexRefused, Limit as LexLimit, Memory as LexMemory}
use Rattle.lua_parse.specs.declared.fault.ParseFault.{ParseFault}
use Rattle.lua_parse.specs.declared.fault.ParseFault.TheVariants.{Refused as ParseRefused, Memory as ParseMemory}
use Rattle.scope_core.specs.declared.resolved.ScopeFault.{ScopeFault}
use Rattle.scope_core.specs.declared.resolved.ScopeFault.TheVariants.{Refused as RuleBroken, Memory as RulesMemory}
use Rattle.compile_text.specs.declared.fault.TextFault.{TextFault}
use Rattle.compile_text.specs.declared.fault.TextFault.TheVariants.{Source, Rule, Memory}

abbrev pub fault_of_lexer : LexFault → TextFault
fault_of_lexer (LexRefused line) = Source line
fault_of_lexer LexLimit = Rule 13 1
fault_of_lexer LexMemory = Memory

abbrev pub fault_of_parser : ParseFault → TextFault
fault_of_parser (ParseRefused line) = Source line
fault_of_parser ParseMemory = Memory

abbrev pub fault_of_rules : ScopeFault → TextFault
fault_of_rules (RuleBroken rule line) = Rule rule line
fault_of_rules RulesMemory = Memory
