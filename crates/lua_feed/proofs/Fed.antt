-- What the feeding of a script has done so far, and how it goes on and closes.
use Rattle.std.proofs.Common.{◌≡◌, ℕ, zero, suc, ◌+◌, true, false, List, [], ◌∷◌, ◌++◌, Option, Some, None, refl, sym, ◌∙◌, ap, append_assoc, append-nil, length, subst, take, ◌≤◌, ◌^◌}
use Rattle.std.specs.Prelude.{option_map, IfSome}
use Rattle.list_laws.proofs.Items.{some_same}
use Rattle.machine_core.specs.World.{World}
use Rattle.machine_core.specs.Moves.{Ending, main_yielded, Row}
use Rattle.machine_sound.specs.Sound.{Each}
use Rattle.machine_sound.proofs.Lists.{each_none, each_append, each_push}
use Rattle.machine_runs.specs.Opening.{handed_line}
use Rattle.machine_runs.specs.Runs.{is_end, is_suspended, Run, turn_text, closes, behind, run_from, CodeRun}
use Rattle.lua_heap.specs.declared.world.World.{World as Memory}
use Rattle.lua_heap.specs.Plain.{plain}
use Rattle.io_edge.specs.Content.{GrowsByFront}
use Rattle.io_edge.specs.Lines.{lines_of, TakesLine, BeginsPastLimits, IsWithinLimits}
use Rattle.lua_driver.specs.Turns.{Turns}
use Rattle.lua_feed.specs.declared.feeding.Close.{Close as Kept}
use Rattle.lua_feed.specs.Closes.{close_of, closing}
use Rattle.lua_feed.specs.Feeding.{Does, IsBrokenOff, IsCutOff, IsFedTo, IsFront, IsFedFront, OnlyGrows}
use Rattle.lua_feed.specs.Limits.{lines_within, pass_limits, usable_lines, passes_limits}
use Rattle.lua_feed.proofs.Limits.{keeps_within, passes_on, none_usable, passes_now, none_left, none_past}
use Rattle.lua_feed.proofs.Closing.{ended_otherwise}
use Rattle.lua_feed.proofs.Runs.{Comes, GoesOn, PrintsFirst, comes_none, comes_on, ends_here, suspends_here, turn_prints}

-- fronts

abbrev longer : List ℕ → ℕ → ℕ
longer [] n = n
longer (x ∷ xs) n = suc (longer xs n)

take_longer : (xs ys : List ℕ) (n : ℕ) → take (longer xs n) (xs ++ ys) ≡ xs ++ take n ys
take_longer [] ys n = refl
take_longer (x ∷ xs) ys n = ap (λ l. x ∷ l) (take_longer xs ys n)

-- a prefix of a text is one of a longer text
take_more : (n : ℕ) (xs ys : List ℕ) → (k : ℕ) × (take n xs ≡ take k (xs ++ ys))
take_more zero xs ys = (0, refl)
take_more (suc n) [] ys = (0, refl)
take_more (suc n) (x ∷ xs) ys = let k = take_more n xs ys in (suc k.0, ap (λ l. x ∷ l) k.1)

pub front_more : (xs ys : List ℕ) (before after : Option (List ℕ)) → GrowsByFront xs before after → GrowsByFront (xs ++ ys) before after
front_more xs ys before None h = tt
front_more xs ys before (Some a) h =
    let k = take_more h.1 xs ys in
    (h.0, k.0, h.2, h.3 ∙ ap (λ t. h.0 ++ t) k.1)

pub front_none : (xs : List ℕ) (before after : Option (List ℕ)) → after ≡ before → GrowsByFront xs before after
front_none xs before None e = tt
front_none xs before (Some a) e = (a, 0, sym e, sym (append-nil a))

pub front_all : (xs ys : List ℕ) (before after : Option (List ℕ)) → after ≡ option_map (λ t. t ++ xs) before → GrowsByFront (xs ++ ys) before after
front_all xs ys before None e = tt
front_all xs ys None (Some a) e = absurd (cc)
front_all xs ys (Some b) (Some a) e =
    (b, longer xs 0, refl, some_same a (b ++ xs) e ∙ ap (λ t. b ++ t) (sym (append-nil xs) ∙ sym (take_longer xs ys 0)))

pub front_behind : (xs ys : List ℕ) (before between after : Option (List ℕ)) → between ≡ option_map (λ t. t ++ xs) before → GrowsByFront ys between after → GrowsByFront (xs ++ ys) before after
front_behind xs ys before between None e h = tt
front_behind xs ys None between (Some a) e h = let n : None ≡ Some h.0 = sym e ∙ h.2 in absurd (cc)
front_behind xs ys (Some b) between (Some a) e h =
    let first : h.0 ≡ b ++ xs = some_same h.0 (b ++ xs) (sym h.2 ∙ e) in
    (b, longer xs h.1, refl, h.3 ∙ ap (λ t. t ++ take h.1 ys) first ∙ append_assoc b xs (take h.1 ys) ∙ ap (λ t. b ++ t) (sym (take_longer xs ys h.1)))

pub grows_twice : (xs ys : List ℕ) (before between after : Option (List ℕ)) → between ≡ option_map (λ t. t ++ xs) before → after ≡ option_map (λ t. t ++ ys) between → after ≡ option_map (λ t. t ++ (xs ++ ys)) before
grows_twice xs ys None between after e f = f ∙ ap (option_map (λ t. t ++ ys)) e
grows_twice xs ys (Some b) between after e f = f ∙ ap (option_map (λ t. t ++ ys)) e ∙ ap Some (append_assoc b xs ys)

pub grows_none : (before : Option (List ℕ)) → before ≡ option_map (λ t. t ++ []) before
grows_none None = refl
grows_none (Some b) = ap Some (sym (append-nil b))

-- growth by whatever bytes

pub only_same : (before after : Option (List ℕ)) → after ≡ before → OnlyGrows before after
only_same before None e = tt
only_same before (Some a) e = (a, [], sym e, sym (append-nil a))

pub only_front : (xs : List ℕ) (before after : Option (List ℕ)) → GrowsByFront xs before after → OnlyGrows before after
only_front xs before None h = tt
only_front xs before (Some a) h = (h.0, take h.1 xs, h.2, h.3)

pub only_grown : (xs : List ℕ) (before after : Option (List ℕ)) → after ≡ option_map (λ t. t ++ xs) before → OnlyGrows before after
only_grown xs before None e = tt
only_grown xs None (Some a) e = absurd (cc)
only_grown xs (Some b) (Some a) e = (b, xs, refl, some_same a (b ++ xs) e)

pub only_twice : (before between after : Option (List ℕ)) → OnlyGrows before between → OnlyGrows between after → OnlyGrows before after
only_twice before between None h k = tt
only_twice before None (Some a) h k = let n : None ≡ Some k.0 = k.2 in absurd (cc)
only_twice before (Some b) (Some a) h k =
    (h.0, h.1 ++ k.1, h.2, k.3 ∙ ap (λ t. t ++ k.1) (some_same k.0 b (sym k.2) ∙ h.3) ∙ append_assoc h.0 h.1 k.1)

-- what was printed so far, and what a turn printed
pub only_further : (xs ys : List ℕ) (before between after : Option (List ℕ)) → between ≡ option_map (λ t. t ++ xs) before → after ≡ option_map (λ t. t ++ ys) between → OnlyGrows before after
only_further xs ys before between after g h = only_twice before between after (only_grown xs before between g) (only_grown ys between after h)

-- lines

same_lines : (text : Option (List ℕ)) → option_map lines_of text ≡ option_map (λ t. lines_of t) text
same_lines None = refl
same_lines (Some t) = refl

abbrev rest_lines : ℕ → Option (List ℕ) → List (List ℕ)
rest_lines taken None = []
rest_lines taken (Some t) = usable_lines taken t

abbrev all_rest : Option (List ℕ) → List (List ℕ)
all_rest None = []
all_rest (Some t) = lines_of t

none_rest : (rest : Option (List ℕ)) → IfSome rest (λ text. text ≡ []) → all_rest rest ≡ []
unfolding lines_of
none_rest None e = refl
none_rest (Some t) e = ap lines_of e

-- where the input tells its bytes, what is known of the usable lines, and more
pub told_within : (Runs : List (List ℕ) → Type 0) (Q : List ℕ → Type 0) (taken : ℕ) (lines : List (List ℕ)) (text : Option (List ℕ)) → IfSome text (λ bytes. lines ≡ usable_lines taken bytes) → Runs lines → IfSome text Q
    → IfSome text (λ bytes. Runs (usable_lines taken bytes) × Q bytes)
told_within Runs Q taken lines None are runs more = tt
told_within Runs Q taken lines (Some b) are runs more = (subst Runs are runs, more)

pub told_all : (Q : List ℕ → Type 0) (text : Option (List ℕ)) → ((bytes : List ℕ) → Q bytes) → IfSome text Q
told_all Q None q = tt
told_all Q (Some b) q = q b

no_lines : (taken : ℕ) (rest : Option (List ℕ)) → IfSome rest (λ text. text ≡ []) → rest_lines taken rest ≡ []
no_lines taken None e = refl
no_lines taken (Some t) e = none_left taken t e

cut_lines : (taken : ℕ) (rest : Option (List ℕ)) → IfSome rest (BeginsPastLimits taken) → rest_lines taken rest ≡ []
cut_lines taken None p = refl
cut_lines taken (Some t) p = none_usable taken t p

one_more : (used : List (List ℕ)) (line : List ℕ) (text rest next : Option (List ℕ)) → option_map lines_of text ≡ option_map (λ t. used ++ lines_of t) rest → option_map lines_of rest ≡ option_map (λ t. line ∷ lines_of t) next
    → option_map lines_of text ≡ option_map (λ t. (used ++ line ∷ []) ++ lines_of t) next
one_more used line text None None e f = e
one_more used line text None (Some n) e f = absurd (cc)
one_more used line text (Some t) None e f = absurd (cc)
one_more used line text (Some t) (Some n) e f =
    e ∙ ap (λ ls. Some (used ++ ls)) (some_same (lines_of t) (line ∷ lines_of n) f) ∙ ap Some (sym (append_assoc used (line ∷ []) (lines_of n)))

-- what a run does from a world in memory does not hang on what is left of a budget
by_fuel : (rows : ℕ → Row) (W : Memory) (f g budget count : ℕ) (more : List (List ℕ)) → run_from rows count (plain W f) more budget ≡ run_from rows count (plain W g) more budget
by_fuel rows W f g budget count [] = refl
by_fuel rows W f g budget count (line ∷ more) = refl

run_by_fuel : (rows : ℕ → Row) (W : Memory) (f g budget : ℕ) (more : List (List ℕ)) (r : Run) → CodeRun rows (plain W f) more budget r → CodeRun rows (plain W g) more budget r
run_by_fuel rows W f g budget more r x = record { count = x.count; gives = by_fuel rows W g f budget x.count more ∙ x.gives }

come_by_fuel : (rows : ℕ → Row) (budget : ℕ) (start : World) (W : Memory) (f g : ℕ) (used : List (List ℕ)) (printed : List ℕ) → Comes rows budget start (plain W f) used printed → Comes rows budget start (plain W g) used printed
come_by_fuel rows budget start W f g used printed c =
    record {
      goes = λ more r x. c.goes more r (run_by_fuel rows W g f budget more r x);
      back = λ more r x.
          let k : GoesOn rows budget (plain W f) more printed r = c.back more r x in
          record { rest = k.rest; runs = run_by_fuel rows W f g budget more k.rest k.runs; is = k.is };
    }

abbrev pub Short : List ℕ → Type 0
Short line = length line ≤ 2 ^ 20

-- what was done so far: the lines that were used, and what was printed
pub record Feeding (rows : ℕ → Row) (budget : ℕ) (start : Memory) (text before : Option (List ℕ)) (first : ℕ) (now : Memory) (rest after : Option (List ℕ)) (taken : ℕ) : Type 0 where
  pub used : List (List ℕ)
  pub printed : List ℕ
  pub comes : Comes rows budget (plain start 0) (plain now 0) used printed
  pub lines : option_map lines_of text ≡ option_map (λ t. used ++ lines_of t) rest
  pub grown : after ≡ option_map (λ t. t ++ printed) before
  pub usable : (more : List (List ℕ)) → lines_within first (used ++ more) ≡ used ++ lines_within taken more
  pub passing : (more : List (List ℕ)) → pass_limits first (used ++ more) ≡ pass_limits taken more
  pub short : Each Short used

-- the lines that may be handed over, and whether one is past the limits
module _ (rows : ℕ → Row) (budget : ℕ) (start : Memory) (before : Option (List ℕ)) (first : ℕ) (now : Memory) (after : Option (List ℕ)) (taken : ℕ) where
  are_lines : (text rest : Option (List ℕ)) (f : Feeding rows budget start text before first now rest after taken) → IfSome text (λ bytes. f.used ++ rest_lines taken rest ≡ usable_lines first bytes)
  are_lines None rest f = tt
  are_lines (Some b) None f = let e = f.lines in absurd (cc)
  are_lines (Some b) (Some t) f = sym (ap (lines_within first) (some_same (lines_of b) (f.used ++ lines_of t) f.lines) ∙ f.usable (lines_of t))

  all_lines : (text rest : Option (List ℕ)) (f : Feeding rows budget start text before first now rest after taken) → IfSome text (λ bytes. f.used ++ all_rest rest ≡ lines_of bytes)
  all_lines None rest f = tt
  all_lines (Some b) None f = let e = f.lines in absurd (cc)
  all_lines (Some b) (Some t) f = sym (some_same (lines_of b) (f.used ++ lines_of t) f.lines)

  all_used : (text rest : Option (List ℕ)) → Feeding rows budget start text before first now rest after taken → IfSome rest (λ t. t ≡ []) → IfSome text (λ bytes. passes_limits first bytes ≡ false)
  all_used None rest f none = tt
  all_used (Some b) None f none = let e = f.lines in absurd (cc)
  all_used (Some b) (Some t) f none = ap (pass_limits first) (some_same (lines_of b) (f.used ++ lines_of t) f.lines) ∙ f.passing (lines_of t) ∙ none_past taken t none

  one_past : (text rest : Option (List ℕ)) → Feeding rows budget start text before first now rest after taken → IfSome rest (BeginsPastLimits taken) → IfSome text (λ bytes. passes_limits first bytes ≡ true)
  one_past None rest f p = tt
  one_past (Some b) None f p = let e = f.lines in absurd (cc)
  one_past (Some b) (Some t) f p = ap (pass_limits first) (some_same (lines_of b) (f.used ++ lines_of t) f.lines) ∙ f.passing (lines_of t) ∙ passes_now taken t p

pub fed_none : (rows : ℕ → Row) (budget : ℕ) (start : Memory) (text before : Option (List ℕ)) (first : ℕ) → Feeding rows budget start text before first start text before first
fed_none rows budget start text before first =
    record { used = []; printed = []; comes = comes_none rows budget (plain start 0); lines = same_lines text; grown = grows_none before; usable = λ more. refl; passing = λ more. refl; short = each_none Short }

-- it goes on by a turn that yields and a line that is handed over
pub fed_on : (rows : ℕ → Row) (budget : ℕ) (start : Memory) (text before : Option (List ℕ)) (first : ℕ) (now mid new : Memory) (rest next after later : Option (List ℕ)) (taken taken' : ℕ) (line : List ℕ)
    → Feeding rows budget start text before first now rest after taken → Turns rows now mid budget main_yielded → ((fuel : ℕ) → plain new fuel ≡ handed_line (plain mid fuel) line)
    → later ≡ option_map (λ t. t ++ turn_text main_yielded (plain mid 0)) after → TakesLine (Some line) rest next → IsWithinLimits taken line → taken' ≡ taken + length line + 1
    → Feeding rows budget start text before first new next later taken'
fed_on rows budget start text before first now mid new rest next after later taken taken' line f t handed grown takes within counts =
    let c : Comes rows budget (plain start 0) (handed_line (plain mid t.left) line) (f.used ++ line ∷ []) (f.printed ++ turn_text main_yielded (plain mid t.left)) =
    comes_on rows budget (plain start 0) (plain now 0) (plain mid t.left) f.used f.printed t.count line f.comes t.is in
    let d : Comes rows budget (plain start 0) (plain new t.left) (f.used ++ line ∷ []) (f.printed ++ turn_text main_yielded (plain mid t.left)) =
    subst (λ W. Comes rows budget (plain start 0) W (f.used ++ line ∷ []) (f.printed ++ turn_text main_yielded (plain mid t.left))) (sym (handed t.left)) c in
    record {
      used = f.used ++ line ∷ [];
      printed = f.printed ++ turn_text main_yielded (plain mid 0);
      comes = come_by_fuel rows budget (plain start 0) new t.left 0 (f.used ++ line ∷ []) (f.printed ++ turn_text main_yielded (plain mid 0)) d;
      lines = one_more f.used line text rest next f.lines takes;
      grown = grows_twice f.printed (turn_text main_yielded (plain mid 0)) before after later f.grown grown;
      usable = λ more.
          ap (lines_within first) (append_assoc f.used (line ∷ []) more) ∙ f.usable (line ∷ more)
          ∙ ap (λ ls. f.used ++ ls) (keeps_within taken line more within ∙ ap (λ n. line ∷ lines_within n more) (sym counts)) ∙ sym (append_assoc f.used (line ∷ []) (lines_within taken' more));
      passing = λ more. ap (pass_limits first) (append_assoc f.used (line ∷ []) more) ∙ f.passing (line ∷ more) ∙ passes_on taken line more within ∙ ap (λ n. pass_limits n more) (sym counts);
      short = each_push Short f.used line f.short within.short_line;
    }

-- it closes by a turn that no line follows
pub fed_last : (rows : ℕ → Row) (budget : ℕ) (start : Memory) (text before : Option (List ℕ)) (first : ℕ) (now mid : Memory) (rest after later : Option (List ℕ)) (taken : ℕ) (e : Ending) (k : Kept)
    → Feeding rows budget start text before first now rest after taken → Turns rows now mid budget e → closing e ≡ Some k → later ≡ option_map (λ t. t ++ turn_text e (plain mid 0)) after
    → IsFedTo (Does rows (plain start 0) budget) first text before later (close_of k) mid
fed_last rows budget start text before first now mid rest after later taken e k f t h grown =
    let r : Run = closes e (close_of k) (plain mid t.left) in
    record {
      fed = record {
        lines = f.used ++ all_rest rest;
        are = all_lines rows budget start before first now after taken text rest f;
        run = behind f.printed r;
        runs = f.comes.goes (all_rest rest) r (ends_here rows budget (plain now 0) (plain mid t.left) t.count e k (all_rest rest) h t.is);
        closes = refl;
        grown = grows_twice f.printed (turn_text e (plain mid 0)) before after later f.grown grown;
        within = told_within (λ ls. CodeRun rows (plain start 0) ls budget (behind f.printed r)) (λ bytes. close_of k ≡ is_suspended → passes_limits first bytes ≡ false) first (f.used ++ rest_lines taken rest) text
            (are_lines rows budget start before first now after taken text rest f)
            (f.comes.goes (rest_lines taken rest) r (ends_here rows budget (plain now 0) (plain mid t.left) t.count e k (rest_lines taken rest) h t.is))
            (told_all (λ bytes. close_of k ≡ is_suspended → passes_limits first bytes ≡ false) text (λ bytes c. absurd (ended_otherwise e k h c)));
        short = λ c. absurd (ended_otherwise e k h c);
      };
      leaves = record { left = t.left; is = refl };
    }

-- a run that waits for a line after what was used
module _ (rows : ℕ → Row) (budget : ℕ) (start : Memory) (text before : Option (List ℕ)) (first : ℕ) (now mid : Memory) (rest after later : Option (List ℕ)) (taken : ℕ)
    (f : Feeding rows budget start text before first now rest after taken) (t : Turns rows now mid budget main_yielded) (grown : later ≡ option_map (λ t. t ++ turn_text main_yielded (plain mid 0)) after) where
  abbrev waiting : Run
  waiting = behind f.printed (behind (turn_text main_yielded (plain mid 0)) (record { printed = []; close = is_suspended; last = plain mid t.left }))

  waits : (more : List (List ℕ)) → more ≡ [] → CodeRun rows (plain start 0) (f.used ++ more) budget waiting
  waits more none =
      subst (λ ls. CodeRun rows (plain start 0) (f.used ++ ls) budget waiting) (sym none)
      (f.comes.goes [] (behind (turn_text main_yielded (plain mid 0)) (record { printed = []; close = is_suspended; last = plain mid t.left })) (suspends_here rows budget (plain now 0) (plain mid t.left) t.count t.is))

  grew : later ≡ option_map (λ t. t ++ (f.printed ++ (turn_text main_yielded (plain mid 0) ++ []))) before
  grew =
      grows_twice f.printed (turn_text main_yielded (plain mid 0) ++ []) before after later f.grown
      (grown ∙ ap (λ w. option_map (λ t. t ++ w) after) (sym (append-nil (turn_text main_yielded (plain mid 0)))))

  told_so : (text : Option (List ℕ)) → IfSome text (λ bytes. passes_limits first bytes ≡ false) → IfSome text (λ bytes. is_suspended ≡ is_suspended → passes_limits first bytes ≡ false)
  told_so None p = tt
  told_so (Some b) p = λ same. p

  -- where no line is left
  pub fed_suspended : IfSome rest (λ t. t ≡ []) → IsFedTo (Does rows (plain start 0) budget) first text before later is_suspended mid
  fed_suspended none = record {
    fed = record {
      lines = f.used ++ all_rest rest;
      are = all_lines rows budget start before first now after taken text rest f;
      run = waiting;
      runs = waits (all_rest rest) (none_rest rest none);
      closes = refl;
      grown = grew;
      within = told_within (λ ls. CodeRun rows (plain start 0) ls budget waiting) (λ bytes. is_suspended ≡ is_suspended → passes_limits first bytes ≡ false) first (f.used ++ rest_lines taken rest) text
          (are_lines rows budget start before first now after taken text rest f)
          (waits (rest_lines taken rest) (no_lines taken rest none))
          (told_so text (all_used rows budget start before first now after taken text rest f none));
      short = λ same. subst (λ ls. Each Short (f.used ++ ls)) (sym (none_rest rest none)) (each_append Short f.used [] f.short (each_none Short));
    };
    leaves = record { left = t.left; is = refl };
  }

  -- where the next line is past the limits
  pub fed_cut : IfSome rest (BeginsPastLimits taken) → IsCutOff (Does rows (plain start 0) budget) first text before later
  fed_cut p = record {
    lines = f.used ++ rest_lines taken rest;
    are = are_lines rows budget start before first now after taken text rest f;
    run = waiting;
    runs = waits (rest_lines taken rest) (cut_lines taken rest p);
    waits = refl;
    grown = grew;
    past = one_past rows budget start before first now after taken text rest f p;
  }

  -- where the next line cannot be read

  first_lines : (text : Option (List ℕ)) → IfSome text (λ bytes. f.used ++ rest_lines taken rest ≡ usable_lines first bytes) → IfSome text (λ bytes. (more : List (List ℕ)) × (usable_lines first bytes ≡ (f.used ++ []) ++ more))
  first_lines None are = tt
  first_lines (Some b) are = (rest_lines taken rest, sym are ∙ ap (λ ls. ls ++ rest_lines taken rest) (sym (append-nil f.used)))

  pub fed_broken : IsBrokenOff (Does rows (plain start 0) budget) first text before later
  fed_broken = record {
    lines = f.used ++ [];
    are = first_lines text (are_lines rows budget start before first now after taken text rest f);
    short = each_append Short f.used [] f.short (each_none Short);
    run = waiting;
    runs = waits [] refl;
    waits = refl;
    grown = grew;
  }

-- where it stops at a fault, a prefix of what a run prints was written

pub front_of_turn : (rows : ℕ → Row) (budget : ℕ) (now mid : Memory) (after later : Option (List ℕ)) (e : Ending) → Turns rows now mid budget e → is_end e ≡ true
    → GrowsByFront (turn_text e (plain mid 0)) after later → IsFront rows (plain now 0) budget after later
front_of_turn rows budget now mid after later e t h g =
    record {
      is = λ lines r x.
          let p : PrintsFirst (turn_text e (plain mid t.left)) r = turn_prints rows budget (plain now 0) (plain mid t.left) t.count e lines r h t.is x in
          subst (λ text. GrowsByFront text after later) (sym p.is) (front_more (turn_text e (plain mid 0)) p.rest after later g);
    }

pub front_unwritten : (rows : ℕ → Row) (budget : ℕ) (now : Memory) (after later : Option (List ℕ)) → later ≡ after → IsFront rows (plain now 0) budget after later
front_unwritten rows budget now after later e = record { is = λ lines r x. front_none r.printed after later e }

whole_front : (xs : List ℕ) (before after : Option (List ℕ)) → after ≡ option_map (λ t. t ++ xs) before → GrowsByFront xs before after
whole_front xs before after e = subst (λ t. GrowsByFront t before after) (append-nil xs) (front_all xs [] before after e)

pub front_written : (rows : ℕ → Row) (budget : ℕ) (now mid : Memory) (after later : Option (List ℕ)) (e : Ending) → Turns rows now mid budget e → is_end e ≡ true
    → later ≡ option_map (λ t. t ++ turn_text e (plain mid 0)) after → IsFront rows (plain now 0) budget after later
front_written rows budget now mid after later e t h g = front_of_turn rows budget now mid after later e t h (whole_front (turn_text e (plain mid 0)) after later g)

pub fed_front : (rows : ℕ → Row) (budget : ℕ) (start : Memory) (text before : Option (List ℕ)) (first : ℕ) (now : Memory) (rest after later : Option (List ℕ)) (taken : ℕ)
    → Feeding rows budget start text before first now rest after taken → IsFront rows (plain now 0) budget after later → IsFedFront (Does rows (plain start 0) budget) first text before later
fed_front rows budget start None before first now rest after later taken f k = record { is = tt }
fed_front rows budget start (Some b) before first now rest after later taken f k =
    record {
      is = λ r x.
          let lines : f.used ++ rest_lines taken rest ≡ usable_lines first b = are_lines rows budget start before first now after taken (Some b) rest f in
          let x' : CodeRun rows (plain start 0) (f.used ++ rest_lines taken rest) budget r = subst (λ ls. CodeRun rows (plain start 0) ls budget r) (sym lines) x in
          let g : GoesOn rows budget (plain now 0) (rest_lines taken rest) f.printed r = f.comes.back (rest_lines taken rest) r x' in
          subst (λ (r : Run). GrowsByFront r.printed before later) g.is (front_behind f.printed g.rest.printed before after later f.grown (k.is (rest_lines taken rest) g.rest g.runs));
    }

-- a turn was done and written, and no line followed
pub turned_front : (rows : ℕ → Row) (budget : ℕ) (start : Memory) (text before : Option (List ℕ)) (first : ℕ) (now mid : Memory) (rest after later : Option (List ℕ)) (taken : ℕ) (e : Ending)
    → Feeding rows budget start text before first now rest after taken → Turns rows now mid budget e → is_end e ≡ true → later ≡ option_map (λ t. t ++ turn_text e (plain mid 0)) after
    → IsFedFront (Does rows (plain start 0) budget) first text before later
turned_front rows budget start text before first now mid rest after later taken e f t h g =
    fed_front rows budget start text before first now rest after later taken f (front_written rows budget now mid after later e t h g)
