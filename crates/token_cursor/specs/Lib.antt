pub mod Words
pub use Rattle.lua_lex.specs.Lexical
