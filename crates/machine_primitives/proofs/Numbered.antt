-- The row of each number.
use Rattle.std.proofs.Common.{◌≡◌, ℕ, zero, suc, List, [], ◌∷◌, Option, Some, None, refl, ap, sym, ◌∙◌}
use Rattle.std.specs.Prelude.{slice_get, IfSome, IfNone}
use Rattle.machine_sound.proofs.Lists.{some_is}
use Rattle.library_rows.specs.Library.{Primitive, Entry, all_entries}
use Rattle.tree_core.specs.Tree.{Body}
use Rattle.load_rows.specs.Loading.{Builds}
use Rattle.loaded_code.specs.Laws.{library, load_by}
use Rattle.machine_core.specs.Moves.{Row, traps}
use Rattle.machine_core.specs.PrimitiveRows.{primitive_row}
use Rattle.lib_base.specs.declared.calls.Function.TheVariants.{Assert, CollectGarbage, GetMetatable, Next, RawEqual, RawGet, RawLength, RawSet, Select, SetMetatable, TypeOf, Pack, Expand, Join, MetaField, Seek, Sort, Spread, Text, Math, OverTexts}
use Rattle.pure_functions.specs.declared.math.Function.TheVariants.{Abs as MathAbs, Fmod as MathFmod, Max as MathMax, Min as MathMin, ToInteger as MathToInteger, TypeOf as MathTypeOf, Ult as MathUlt}
use Rattle.pure_functions.specs.declared.texts.Function.TheVariants.{ToNumber as TextToNumber, Byte as TextByte, Char as TextChar, Find as TextFind, Len as TextLen, Lower as TextLower, Match as TextMatch, Rep as TextRep, Reverse as TextReverse, Sub as TextSub, Upper as TextUpper, Utf8Char as TextUtf8Char, Utf8Codepoint as TextUtf8Codepoint, Utf8Codes as TextUtf8Codes, Utf8Len as TextUtf8Len, Utf8Offset as TextUtf8Offset, From as TextFrom, Kinds as TextKinds, Layout as TextLayout, ToInteger as TextToInteger, Walk as TextWalk, WalkLax as TextWalkLax}
use Rattle.machine_primitives.specs.declared.primitives.Called.{Called}
use Rattle.machine_primitives.specs.declared.primitives.Called.TheVariants.{Library, Error, Pcall, Xpcall, Close, Create, IsYieldable, Resume, Running, Status, Yield, Build, Print}
use Rattle.machine_primitives.specs.Primitives.{row_by}

-- as the table has them
abbrev pub all_called : List Called
all_called =
    Library Assert
    ∷ Library CollectGarbage
    ∷ Error
    ∷ Library GetMetatable
    ∷ Library Next
    ∷ Pcall
    ∷ Library RawEqual
    ∷ Library RawGet
    ∷ Library RawLength
    ∷ Library RawSet
    ∷ Library Select
    ∷ Library SetMetatable
    ∷ Library (OverTexts TextToNumber)
    ∷ Library TypeOf
    ∷ Xpcall
    ∷ Close
    ∷ Create
    ∷ IsYieldable
    ∷ Resume
    ∷ Running
    ∷ Status
    ∷ Yield
    ∷ Library (OverTexts TextByte)
    ∷ Library (OverTexts TextChar)
    ∷ Library (OverTexts TextFind)
    ∷ Library (OverTexts TextLen)
    ∷ Library (OverTexts TextLower)
    ∷ Library (OverTexts TextMatch)
    ∷ Library (OverTexts TextRep)
    ∷ Library (OverTexts TextReverse)
    ∷ Library (OverTexts TextSub)
    ∷ Library (OverTexts TextUpper)
    ∷ Library Pack
    ∷ Library Sort
    ∷ Library (Math MathAbs)
    ∷ Library (Math MathFmod)
    ∷ Library (Math MathMax)
    ∷ Library (Math MathMin)
    ∷ Library (Math MathToInteger)
    ∷ Library (Math MathTypeOf)
    ∷ Library (Math MathUlt)
    ∷ Library (OverTexts TextUtf8Char)
    ∷ Library (OverTexts TextUtf8Codepoint)
    ∷ Library (OverTexts TextUtf8Codes)
    ∷ Library (OverTexts TextUtf8Len)
    ∷ Library (OverTexts TextUtf8Offset)
    ∷ Build
    ∷ Library Expand
    ∷ Library (OverTexts TextFrom)
    ∷ Library Join
    ∷ Library (OverTexts TextKinds)
    ∷ Library (OverTexts TextLayout)
    ∷ Library MetaField
    ∷ Print
    ∷ Library Seek
    ∷ Library Spread
    ∷ Library Text
    ∷ Library (OverTexts TextToInteger)
    ∷ Library (OverTexts TextWalk)
    ∷ Library (OverTexts TextWalkLax) ∷ []

abbrev row_in : Builds Body → Option (Entry Primitive) → Row
row_in builds None = traps
row_in builds (Some e) = primitive_row (load_by builds) e.entry

data AreRows (builds : Builds Body) : List Called → List (Entry Primitive) → Type 0 where
  no_rows : AreRows builds [] []
  a_row : {c : Called} {e : Entry Primitive} {cs : List Called} {es : List (Entry Primitive)} → primitive_row (load_by builds) e.entry ≡ row_by builds c → AreRows builds cs es → AreRows builds (c ∷ cs) (e ∷ es)

all_are_rows : (builds : Builds Body) → AreRows builds all_called all_entries
all_are_rows builds =
    (a_row refl
    (a_row refl
    (a_row refl
    (a_row refl
    (a_row refl
    (a_row refl
    (a_row refl
    (a_row refl
    (a_row refl
    (a_row refl
    (a_row refl
    (a_row refl
    (a_row refl
    (a_row refl
    (a_row refl
    (a_row refl
    (a_row refl
    (a_row refl
    (a_row refl
    (a_row refl
    (a_row refl
    (a_row refl
    (a_row refl
    (a_row refl
    (a_row refl
    (a_row refl
    (a_row refl
    (a_row refl
    (a_row refl
    (a_row refl
    (a_row refl
    (a_row refl
    (a_row refl
    (a_row refl
    (a_row refl
    (a_row refl
    (a_row refl
    (a_row refl
    (a_row refl
    (a_row refl
    (a_row refl
    (a_row refl
    (a_row refl
    (a_row refl
    (a_row refl
    (a_row refl
    (a_row refl
    (a_row refl
    (a_row refl
    (a_row refl
    (a_row refl
    (a_row refl
    (a_row refl
    (a_row refl
    (a_row refl
    (a_row refl
    (a_row refl
    (a_row refl
    (a_row refl
    (a_row refl
    no_rows))))))))))))))))))))))))))))))))))))))))))))))))))))))))))))

row_at : (builds : Builds Body) (cs : List Called) (es : List (Entry Primitive)) (n : ℕ) (c : Called) → AreRows builds cs es → slice_get cs n ≡ Some c → row_in builds (slice_get es n) ≡ row_by builds c
row_at builds [] [] n c no_rows e = absurd (cc)
row_at builds [] (x ∷ es) n c r e = elim r [ ]
row_at builds (c ∷ cs) [] n d r e = elim r [ ]
row_at builds (c ∷ cs) (x ∷ es) zero d (a_row h r) e = h ∙ ap (row_by builds) (some_is {o = Some c} refl e)
row_at builds (c ∷ cs) (x ∷ es) (suc n) d (a_row h r) e = row_at builds cs es n d r e

none_at : (builds : Builds Body) (cs : List Called) (es : List (Entry Primitive)) (n : ℕ) → AreRows builds cs es → slice_get cs n ≡ None → row_in builds (slice_get es n) ≡ traps
none_at builds [] [] n no_rows e = refl
none_at builds [] (x ∷ es) n r e = elim r [ ]
none_at builds (c ∷ cs) [] n r e = elim r [ ]
none_at builds (c ∷ cs) (x ∷ es) zero (a_row h r) e = absurd (cc)
none_at builds (c ∷ cs) (x ∷ es) (suc n) (a_row h r) e = none_at builds cs es n r e

numbered_in : (builds : Builds Body) (n : ℕ) → library builds n ≡ row_in builds (slice_get all_entries n)
numbered_in builds n = by (slice_get all_entries n)
  where
    by : (o : Option (Entry Primitive)) → elim (elim o as (λ _. Option Primitive) [ None ↦ None | Some e ↦ Some e.entry ]) as (λ _. Row) [ None ↦ traps | Some p ↦ primitive_row (load_by builds) p ] ≡ row_in builds o
    by None = refl
    by (Some e) = refl

pub row_found : (n : ℕ) (o : Option Called) → o ≡ slice_get all_called n → IfSome o (λ c. (builds : Builds Body) → library builds n ≡ row_by builds c)
row_found n (Some c) e = λ builds. numbered_in builds n ∙ row_at builds all_called all_entries n c (all_are_rows builds) (sym e)
row_found n None e = tt

pub none_found : (n : ℕ) (o : Option Called) → o ≡ slice_get all_called n → IfNone o ((builds : Builds Body) → library builds n ≡ traps)
none_found n None e = λ builds. numbered_in builds n ∙ none_at builds all_called all_entries n (all_are_rows builds) (sym e)
none_found n (Some c) e = tt
