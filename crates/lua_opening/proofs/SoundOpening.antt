-- The world of the libraries over the prelude's checked code is sound, and no coroutine runs in it.
use Rattle.std.proofs.Common.{◌≡◌, ◌≤◌, ◌∙◌, ℕ, arith, Bool, List, [], ◌∷◌, length, refl, ap, sym, subst}
use Rattle.std.specs.Prelude.{nat_le, IsTrue}
use Rattle.std.specs.List.{list_all}
use Rattle.int_core.specs.Value.{greatest_string}
use Rattle.code_core.specs.Prototype.{Prototype, Prototypes, none, more, list_of}
use Rattle.code_core.specs.Check.{IsChecked, AllChecked}
use Rattle.library_rows.specs.Library.{Library, Entry, entry, all_entries}
use Rattle.library_rows.specs.PreludeText.{prelude_functions}
use Rattle.machine_core.specs.World.{World}
use Rattle.machine_sound.specs.Sound.{Each, Sound}
use Rattle.machine_sound.proofs.Lists.{each_none, each_cons}
use Rattle.machine_sound.proofs.Values.{le_of, both_of}
use Rattle.machine_runs.specs.Laws.{PreludeOk, OpeningIsSound, OpeningIsIdle}
use Rattle.machine_runs.specs.Opening.{opening}
use Rattle.lua_heap.specs.declared.world.World.{World as Memory}
use Rattle.lua_heap.specs.Cells.{CellsAreListed}
use Rattle.lua_heap.specs.Codes.{AreCodes}
use Rattle.lua_heap.specs.Plain.{plain}
use Rattle.lua_meaning.specs.Opening.{entries_of, prelude_of}

-- the prelude

abbrev is_short : List ℕ × Library → Bool
is_short f = nat_le (length f.0) 16

names_fit : (fs : List (List ℕ × Library)) (ps : List Prototype) → IsTrue (list_all is_short fs) → Each (λ (e : Entry Prototype). length e.name ≤ greatest_string) (entries_of fs ps)
names_fit [] ps h = each_none (λ (e : Entry Prototype). length e.name ≤ greatest_string)
names_fit (f ∷ fs) [] h = each_none (λ (e : Entry Prototype). length e.name ≤ greatest_string)
names_fit (f ∷ fs) (p ∷ ps) h =
    let b = both_of (is_short f) (list_all is_short fs) h in
    let k : length f.0 ≤ 16 = le_of (length f.0) 16 b.0 in
    let m : length f.0 ≤ greatest_string = omega arith in
    each_cons (λ (e : Entry Prototype). length e.name ≤ greatest_string) (entry f.1 f.0 p) (entries_of fs ps) m (names_fit fs ps b.1)

codes_checked : (fs : List (List ℕ × Library)) (ps : Prototypes) → AllChecked ps → Each (λ (e : Entry Prototype). IsChecked e.entry) (entries_of fs (list_of ps))
codes_checked [] ps h = each_none (λ (e : Entry Prototype). IsChecked e.entry)
codes_checked (f ∷ fs) none h = each_none (λ (e : Entry Prototype). IsChecked e.entry)
codes_checked (f ∷ fs) (more own inner rest) h =
    each_cons (λ (e : Entry Prototype). IsChecked e.entry) (entry f.1 f.0 (record { own = own; inner = inner })) (entries_of fs (list_of rest))
    (record { code = h.0; inner = h.1 }) (codes_checked fs rest h.2)

short_names : IsTrue (list_all is_short prelude_functions)
short_names = refl

pub prelude_ok : (p : Prototype) → IsChecked p → PreludeOk (prelude_of (list_of p.inner))
prelude_ok p h = record { names = names_fit prelude_functions (list_of p.inner) short_names; codes = codes_checked prelude_functions p.inner h.inner }

-- worlds

no_budget : (es : List (Entry Prototype)) → record (opening es) { fuel = 0 } ≡ opening es
unfolding opening
no_budget es = refl

-- this world in memory is that of the libraries
pub record IsOpened (prelude : Prototype) (W : Memory) : Type 0 where
  pub is : plain W 0 ≡ opening (prelude_of (list_of prelude.inner))
  pub codes : AreCodes W.strings W.codes
  pub listed : CellsAreListed W

pub opened : (prelude : Prototype) (W : Memory) → ((fuel : ℕ) → plain W fuel ≡ record (opening (prelude_of (list_of prelude.inner))) { fuel = fuel }) → AreCodes W.strings W.codes → CellsAreListed W → IsOpened prelude W
opened prelude W e codes listed = record { is = e 0 ∙ no_budget (prelude_of (list_of prelude.inner)); codes = codes; listed = listed }

pub opened_sound : OpeningIsSound → (prelude : Prototype) (W : Memory) → IsChecked prelude → IsOpened prelude W → Sound (length all_entries) (plain W 0)
opened_sound law prelude W h o = subst (Sound (length all_entries)) (sym o.is) (law (prelude_of (list_of prelude.inner)) (prelude_ok prelude h))

pub opened_idle : OpeningIsIdle → (prelude : Prototype) (W : Memory) → IsOpened prelude W → (plain W 0).chain ≡ []
opened_idle law prelude W o = ap (λ (V : World). V.chain) o.is ∙ law (prelude_of (list_of prelude.inner))
