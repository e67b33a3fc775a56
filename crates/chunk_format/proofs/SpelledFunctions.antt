-- What the writer spells of a function is in the grammar.
use Rattle.std.proofs.Common.{◌≡◌, ℕ, zero, suc, ◌<◌, ◌≤◌, ◌^◌, Bool, true, false, ◌&&◌, ◌||◌, List, [], ◌∷◌, ◌++◌, Option, Some, None, refl, sym, ap, subst, ◌∙◌, arith, length, append_assoc, append-nil}
use Rattle.std.specs.Prelude.{nat_eq, nat_lt, nat_le, is_none, is_some, if◌then◌else◌}
use Rattle.std.specs.Cmp.Lexicographic.{pointwise, same_text}
use Rattle.std.specs.List.{list_all}
use Rattle.std.proofs.lemmas.Bool.Decides.{nat_tests, Decides-ltb}
use Rattle.code_core.specs.Prototype.{Parts, Prototype, Prototypes, none, more, prototypes, list_of, count, function_count}
use Rattle.code_core.proofs.CheckedLemmas.{rest_of, first_of_two}
use Rattle.code_core.specs.Writable.{Writable, all_fit, keeps_source, parts_fit, lists_fit, entries_fit, list_fits, number_fits, name_fits, byte_fits, constant_fits, upvalue_fits, line_fits, local_fits, word_fits, change_fits, depth, greatest_depth}
use Rattle.chunk_format.specs.Header.{signature, version, format, sizes}
use Rattle.chunk_format.proofs.Chunks.{exact_chunk}
use Rattle.chunk_format.specs.Reading.{read, read_chunk, Lists, Details, no_lists}
use Rattle.chunk_format.specs.Spelling as spelled
use Rattle.chunk_format.specs.Spelling.{kept, kept_parts, all_kept}
use Rattle.chunk_format.specs.Grammar.{SourceOf, HeadOf, ListsOf, DetailsOf, TimesOf, BodyOf, FunctionOf, WholeOf, HeaderOf, ChunkOf, InstructionOf, ConstantOf, UpvalueOf, ChangeOf, AbsLineOf, LocalOf, NameOf}
use Rattle.chunk_format.proofs.Spelled.{then_rest, then_last, gives, number_spelled, number_of_fitting, name_spelled, instruction_spelled, constant_spelled, upvalue_spelled, change_spelled, abs_line_spelled, local_spelled, list_spelled}

-- the parts of a function

source_spelled : (parent own : Option (List ℕ)) → name_fits own ≡ true → (is_none parent || is_some own) ≡ true → SourceOf parent own (spelled.source parent own)
source_spelled None None fits keeps = then_last None _ (name_spelled None refl) (gives None)
source_spelled (Some parent) None fits keeps = absurd (cc)
source_spelled None (Some own) fits keeps = then_last (Some own) _ (name_spelled (Some own) fits) (gives (Some own))
source_spelled (Some parent) (Some own) fits keeps = go (pointwise nat_eq own parent) refl
  where
    go : (same : Bool) → pointwise nat_eq own parent ≡ same → SourceOf (Some parent) (Some own) (if same then spelled.number 0 else spelled.name (Some own))
    go true is =
        let equal : own ≡ parent = same_text own parent (sym is) in
        then_last None _ (name_spelled None refl) (record { value = ap (λ s. Some s) equal; nothing = refl })
    go false is = then_last (Some own) _ (name_spelled (Some own) fits) (gives (Some own))

abbrev head_of : Parts → Parts
head_of p = no_lists p.source p.line_defined p.last_line p.params p.vararg p.stack

abbrev lists_of : Parts → Lists
lists_of p = record { code = p.code; constants = p.constants; upvalues = p.upvalues }

abbrev details_of : Parts → Details
details_of p = record { line_info = p.line_info; abs_lines = p.abs_lines; locals = p.locals; up_names = p.up_names }

-- what a function that can be written says of each of its parts
pub record Fits (p : Parts) : Type 0 where
  pub source : name_fits p.source ≡ true
  pub line_defined : number_fits p.line_defined ≡ true
  pub last_line : number_fits p.last_line ≡ true
  pub params : byte_fits p.params ≡ true
  pub stack : byte_fits p.stack ≡ true
  pub lists : lists_fit p ≡ true
  pub entries : entries_fit p ≡ true

pub fits_of : (p : Parts) → parts_fit p ≡ true → Fits p
fits_of p h =
    let a = rest_of (name_fits p.source) h in
    let b = rest_of (number_fits p.line_defined) a in
    let c = rest_of (number_fits p.last_line) b in
    let d = rest_of (byte_fits p.params) c in
    let e = rest_of (byte_fits p.stack) d in
    record {
      source = first_of_two (name_fits p.source) _ h;
      line_defined = first_of_two (number_fits p.line_defined) _ a;
      last_line = first_of_two (number_fits p.last_line) _ b;
      params = first_of_two (byte_fits p.params) _ c;
      stack = first_of_two (byte_fits p.stack) _ d;
      lists = first_of_two (lists_fit p) _ e;
      entries = rest_of (lists_fit p) e;
    }

head_spelled : (parent : Option (List ℕ)) (p : Parts) → Fits p → (is_none parent || is_some p.source) ≡ true → HeadOf parent (head_of p) (spelled.head parent p)
head_spelled parent p f keeps =
    then_rest _ _ _ (source_spelled parent p.source f.source keeps) (then_rest _ _ _ (number_of_fitting p.line_defined f.line_defined) (then_rest _ _ _ (number_of_fitting p.last_line f.last_line)
    (then_rest p.params (p.params ∷ []) _ refl (then_rest p.vararg (spelled.flag p.vararg ∷ []) _ refl (then_last p.stack (p.stack ∷ []) refl (gives (head_of p)))))))

lists_spelled : (p : Parts) → Fits p → ListsOf (lists_of p) (spelled.lists p)
lists_spelled p f =
    let many = rest_of (list_fits p.code) f.lists in
    let upvalues = first_of_two (nat_le (length p.upvalues) 255) _ (rest_of (list_fits p.constants) many) in
    let few : number_fits (length p.upvalues) ≡ true = grind (arith, nat_tests) in
    let constants = rest_of (list_all word_fits p.code) f.entries in
    then_rest _ _ _ (list_spelled InstructionOf word_fits spelled.instruction instruction_spelled p.code (first_of_two (list_fits p.code) _ f.lists) (first_of_two (list_all word_fits p.code) _ f.entries))
    (then_rest _ _ _ (list_spelled ConstantOf constant_fits spelled.constant constant_spelled p.constants (first_of_two (list_fits p.constants) _ many) (first_of_two (list_all constant_fits p.constants) _ constants))
    (then_last _ _ (list_spelled UpvalueOf upvalue_fits spelled.upvalue upvalue_spelled p.upvalues few (first_of_two (list_all upvalue_fits p.upvalues) _ (rest_of (list_all constant_fits p.constants) constants))) (gives (lists_of p))))

details_spelled : (p : Parts) → Fits p → DetailsOf (details_of p) (spelled.details p)
details_spelled p f =
    let behind = rest_of (nat_le (length p.upvalues) 255) (rest_of (list_fits p.constants) (rest_of (list_fits p.code) f.lists)) in
    let lines = rest_of (list_fits p.line_info) behind in
    let locals = rest_of (list_fits p.abs_lines) lines in
    let changes = rest_of (list_all upvalue_fits p.upvalues) (rest_of (list_all constant_fits p.constants) (rest_of (list_all word_fits p.code) f.entries)) in
    let line_entries = rest_of (list_all change_fits p.line_info) changes in
    let local_entries = rest_of (list_all line_fits p.abs_lines) line_entries in
    then_rest _ _ _ (list_spelled ChangeOf change_fits spelled.change change_spelled p.line_info (first_of_two (list_fits p.line_info) _ behind) (first_of_two (list_all change_fits p.line_info) _ changes))
    (then_rest _ _ _ (list_spelled AbsLineOf line_fits spelled.abs_line abs_line_spelled p.abs_lines (first_of_two (list_fits p.abs_lines) _ lines) (first_of_two (list_all line_fits p.abs_lines) _ line_entries))
    (then_rest _ _ _ (list_spelled LocalOf local_fits spelled.local_variable local_spelled p.locals (first_of_two (list_fits p.locals) _ locals) (first_of_two (list_all local_fits p.locals) _ local_entries))
    (then_last _ _ (list_spelled NameOf name_fits spelled.name name_spelled p.up_names (rest_of (list_fits p.locals) locals) (rest_of (list_all local_fits p.locals) local_entries)) (gives (details_of p)))))

-- functions

prototypes-list_of : (ps : Prototypes) → prototypes (list_of ps) ≡ ps
prototypes-list_of none = refl
prototypes-list_of (more own inner rest) = ap (λ ps. more own inner ps) (prototypes-list_of rest)

width-le : (ps : Prototypes) → length (list_of ps) ≤ count ps
width-le none = omega arith
width-le (more own inner rest) = let h = width-le rest in omega arith

module _ (levels : ℕ) (parent : Option (List ℕ)) (own : Parts) (inner : Prototypes) (fits : parts_fit own ≡ true) (keeps : (is_none parent || is_some own.source) ≡ true)
    (few : count inner < 2 ^ 31) (all : TimesOf (FunctionOf levels own.source) (length (list_of inner)) (list_of inner) (spelled.functions own.source inner)) where
  pub body_spelled : BodyOf (FunctionOf levels) parent (record { own = own; inner = inner }) (spelled.function parent (record { own = own; inner = inner }))
  body_spelled =
      let f = fits_of own fits in
      let narrow : length (list_of inner) < 2 ^ 31 = omega (arith, width-le inner) in
      let regrouped : BodyOf (FunctionOf levels) parent (record { own = own; inner = inner })
      (spelled.head parent own ++ (spelled.lists own ++ (spelled.number (length (list_of inner)) ++ (spelled.functions own.source inner ++ spelled.details own)))) =
      then_rest (head_of own) _ _ (head_spelled parent own f keeps) (then_rest (lists_of own) _ _ (lists_spelled own f)
      (then_rest (length (list_of inner)) _ _ (number_spelled (length (list_of inner)) narrow) (then_rest (list_of inner) _ _ all
      (then_last (details_of own) _ (details_spelled own f) (record { value = ap (λ ps. record { own = own; inner = ps }) (sym (prototypes-list_of inner)); nothing = refl }))))) in
      rw (append_assoc (spelled.number (length (list_of inner))) (spelled.functions own.source inner) (spelled.details own)) regrouped

function_spelled : (levels : ℕ) (parent : Option (List ℕ)) (own : Parts) (inner : Prototypes) → parts_fit own ≡ true → (is_none parent || is_some own.source) ≡ true → count inner < 2 ^ 31 →
    TimesOf (FunctionOf levels own.source) (length (list_of inner)) (list_of inner) (spelled.functions own.source inner) →
    FunctionOf (suc levels) parent (record { own = own; inner = inner }) (spelled.function parent (record { own = own; inner = inner }))
unfolding FunctionOf
function_spelled levels parent own inner fits keeps few all = body_spelled levels parent own inner fits keeps few all

all_spelled : (levels : ℕ) (parent : Parts) (ps : Prototypes) → all_fit parent ps ≡ true → depth ps ≤ levels → count ps < 2 ^ 31 →
    TimesOf (FunctionOf levels parent.source) (length (list_of ps)) (list_of ps) (spelled.functions parent.source ps)
all_spelled levels parent none h deep few = gives []
all_spelled zero parent (more own inner rest) h deep few = absurd (omega arith)
all_spelled (suc levels) parent (more own inner rest) h deep few =
    let fits = rest_of (keeps_source parent own) h in
    let inner_fits = rest_of (parts_fit own) fits in
    let inner_deep : depth inner ≤ levels = omega arith in
    let rest_deep : depth rest ≤ suc levels = omega arith in
    let inner_few : count inner < 2 ^ 31 = omega arith in
    let rest_few : count rest < 2 ^ 31 = omega arith in
    then_rest _ _ _
    (function_spelled levels parent.source own inner (first_of_two (parts_fit own) _ fits) (first_of_two (keeps_source parent own) _ h) inner_few
    (all_spelled levels own inner (first_of_two (all_fit own inner) _ inner_fits) inner_deep inner_few))
    (then_last _ _ (all_spelled (suc levels) parent rest (rest_of (all_fit own inner) inner_fits) rest_deep rest_few) (gives (list_of (more own inner rest))))

pub whole_spelled : (p : Prototype) → Writable p → WholeOf p (spelled.function None p)
whole_spelled p h =
    let inner_fits = rest_of (parts_fit p.own) h in
    let bounds = rest_of (all_fit p.own p.inner) inner_fits in
    let deep : depth p.inner < 500 = (Decides-ltb (depth p.inner) greatest_depth).0 (first_of_two (nat_lt (depth p.inner) greatest_depth) _ bounds) in
    let few : function_count p < 2 ^ 31 = (Decides-ltb (function_count p) (2 ^ 31)).0 (rest_of (nat_lt (depth p.inner) greatest_depth) bounds) in
    let inner_few : count p.inner < 2 ^ 31 = omega arith in
    let inner_deep : depth p.inner ≤ 499 = omega arith in
    record {
      function = function_spelled 499 None p.own p.inner (first_of_two (parts_fit p.own) _ h) refl inner_few (all_spelled 499 p.own p.inner (first_of_two (all_fit p.own p.inner) _ inner_fits) inner_deep inner_few);
      few = few;
    }

pub header_spelled : (p : Prototype) → HeaderOf (length p.own.upvalues) (spelled.header p)
header_spelled p = then_rest tt signature _ refl (then_rest tt version _ refl (then_rest tt format _ refl (then_rest tt sizes _ refl refl)))

pub chunk_spelled : (p : Prototype) → Writable p → ChunkOf p (spelled.chunk p)
chunk_spelled p h = then_rest (length p.own.upvalues) (spelled.header p) _ (header_spelled p) (whole_spelled p h)

-- what is kept of a function that can be written can be written too

all_kept-nothing_stripped : (ps : Prototypes) → all_kept false ps ≡ ps
all_kept-nothing_stripped none = refl
all_kept-nothing_stripped (more own inner rest) = rw (all_kept-nothing_stripped inner, all_kept-nothing_stripped rest) refl

pub kept-nothing_stripped : (p : Prototype) → kept false p ≡ p
kept-nothing_stripped p = ap (λ ps. record { own = p.own; inner = ps }) (all_kept-nothing_stripped p.inner)

and_true : (a b : Bool) → a ≡ true → b ≡ true → (a && b) ≡ true
and_true true b h k = k
and_true false b h k = absurd (cc)

stripped_fits : (p : Parts) → parts_fit p ≡ true → parts_fit (kept_parts true p) ≡ true
stripped_fits p h =
    let f = fits_of p h in
    let constants = rest_of (list_fits p.code) f.lists in
    let entry_constants = rest_of (list_all word_fits p.code) f.entries in
    and_true _ _ f.line_defined (and_true _ _ f.last_line (and_true _ _ f.params (and_true _ _ f.stack
    (and_true _ _
    (and_true _ _ (first_of_two (list_fits p.code) _ f.lists) (and_true _ _ (first_of_two (list_fits p.constants) _ constants) (and_true _ _ (first_of_two (nat_le (length p.upvalues) 255) _ (rest_of (list_fits p.constants) constants)) refl)))
    (and_true _ _ (first_of_two (list_all word_fits p.code) _ f.entries) (and_true _ _ (first_of_two (list_all constant_fits p.constants) _ entry_constants) (and_true _ _ (first_of_two (list_all upvalue_fits p.upvalues) _ (rest_of (list_all constant_fits p.constants) entry_constants)) refl)))))))

all_stripped_fit : (parent : Parts) (ps : Prototypes) → all_fit parent ps ≡ true → all_fit (kept_parts true parent) (all_kept true ps) ≡ true
all_stripped_fit parent none h = refl
all_stripped_fit parent (more own inner rest) h =
    let fits = rest_of (keeps_source parent own) h in
    let inner_fits = rest_of (parts_fit own) fits in
    and_true _ _ (stripped_fits own (first_of_two (parts_fit own) _ fits))
    (and_true _ _ (all_stripped_fit own inner (first_of_two (all_fit own inner) _ inner_fits)) (all_stripped_fit parent rest (rest_of (all_fit own inner) inner_fits)))

depth-kept : (strip : Bool) (ps : Prototypes) → depth (all_kept strip ps) ≡ depth ps
depth-kept strip none = refl
depth-kept strip (more own inner rest) = rw (depth-kept strip inner, depth-kept strip rest) refl

count-kept : (strip : Bool) (ps : Prototypes) → count (all_kept strip ps) ≡ count ps
count-kept strip none = refl
count-kept strip (more own inner rest) = rw (count-kept strip inner, count-kept strip rest) refl

pub Writable-kept : (strip : Bool) (p : Prototype) → Writable p → Writable (kept strip p)
Writable-kept false p h = subst (λ q. Writable q) (sym (kept-nothing_stripped p)) h
Writable-kept true p h =
    let inner_fits = rest_of (parts_fit p.own) h in
    let bounds = rest_of (all_fit p.own p.inner) inner_fits in
    and_true _ _ (stripped_fits p.own (first_of_two (parts_fit p.own) _ h))
    (and_true _ _ (all_stripped_fit p.own p.inner (first_of_two (all_fit p.own p.inner) _ inner_fits)) (rw (depth-kept true p.inner, count-kept true p.inner) bounds))

pub function_written : (p : Prototype) (before after : List ℕ) → before ≡ [] → after ≡ before ++ spelled.function None (kept false p) → after ≡ spelled.function None p
function_written p before after empty e = e ∙ (ap (λ s. s ++ spelled.function None (kept false p)) empty ∙ ap (spelled.function None) (kept-nothing_stripped p))

pub chunk_written : (p : Prototype) (strip : Bool) (before headed after : List ℕ) → before ≡ [] → headed ≡ before ++ spelled.header p → after ≡ headed ++ spelled.function None (kept strip p) →
    after ≡ spelled.chunk (kept strip p)
chunk_written p strip before headed after empty h e =
    e ∙ ap (λ s. s ++ spelled.function None (kept strip p)) (h ∙ ap (λ s. s ++ spelled.header p) empty)

-- a chunk that was written is read again, whatever follows it
read_again : (p : Prototype) (rest : List ℕ) → Writable p → read_chunk (spelled.chunk p ++ rest) ≡ read p rest
read_again p rest h = exact_chunk.complete p (spelled.chunk p) rest (chunk_spelled p h)

pub none_goes_on : (p q : Prototype) (rest : List ℕ) → Writable p → Writable q → spelled.chunk p ++ rest ≡ spelled.chunk q → (p ≡ q) × (rest ≡ [])
none_goes_on p q rest hp hq same =
    let first = read_again p rest hp in
    let second = read_again q [] hq in
    let joined : read p rest ≡ read q [] = sym first ∙ (ap read_chunk (same ∙ sym (append-nil (spelled.chunk q))) ∙ second) in
    (cc (joined), cc (joined))
