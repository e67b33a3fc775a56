-- How a script that waits for a line is fed: by that line, and then as one whose main coroutine is to be resumed.
use Rattle.std.proofs.Common.{◌≡◌, ◌+◌, ◌∙◌, ℕ, List, [], ◌∷◌, Option, Some, None, true, false, refl, sym, ap, subst, length}
use Rattle.std.specs.Prelude.{Bool, IfSome, ◌++◌}
use Rattle.list_laws.proofs.Items.{some_same}
use Rattle.machine_core.specs.World.{World}
use Rattle.machine_core.specs.Moves.{Row}
use Rattle.machine_sound.proofs.Lists.{each_none, each_cons}
use Rattle.machine_runs.specs.Opening.{handed_line}
use Rattle.machine_runs.specs.Runs.{Close, is_suspended, Run, run_from, CodeRun, CodeOnward}
use Rattle.lua_heap.specs.declared.world.World.{World as Memory}
use Rattle.lua_heap.specs.Plain.{plain}
use Rattle.io_edge.specs.Content.{GrowsByFront}
use Rattle.io_edge.specs.Lines.{lines_of, taken_with, TakesLine, BeginsPastLimits, IsWithinLimits}
use Rattle.lua_feed.specs.Feeding.{Does, GoesOn, IsBrokenOff, IsCutOff, IsFedTo, IsFedFront}
use Rattle.lua_feed.specs.Limits.{lines_within, pass_limits, usable_lines, passes_limits}
use Rattle.lua_feed.proofs.Fed.{Short, grows_none, told_within}
use Rattle.lua_feed.proofs.Limits.{keeps_within, passes_on, none_usable, passes_now, none_left, none_past}

-- no line is left

no_lines : (text : Option (List ℕ)) → IfSome text (λ t. t ≡ []) → IfSome text (λ bytes. [] ≡ lines_of bytes)
unfolding lines_of
no_lines None e = tt
no_lines (Some t) e = sym (ap lines_of e)

no_usable : (taken : ℕ) (text : Option (List ℕ)) → IfSome text (λ t. t ≡ []) → IfSome text (λ bytes. [] ≡ usable_lines taken bytes)
no_usable taken None e = tt
no_usable taken (Some t) e = sym (none_left taken t e)

none_pass : (taken : ℕ) (text : Option (List ℕ)) → IfSome text (λ t. t ≡ []) → IfSome text (λ bytes. is_suspended ≡ is_suspended → passes_limits taken bytes ≡ false)
none_pass taken None e = tt
none_pass taken (Some t) e = λ same. none_past taken t e

pub on_none : (rows : ℕ → Row) (W : Memory) (budget taken : ℕ) (text next before after : Option (List ℕ)) → TakesLine None text next → after ≡ before
    → IsFedTo (GoesOn rows (plain W 0) budget) taken text before after is_suspended W
on_none rows W budget taken text next before after none same = record {
  fed = record {
    lines = [];
    are = no_lines text none.1;
    run = record { printed = []; close = is_suspended; last = plain W 0 };
    runs = record { count = 0; gives = refl };
    closes = refl;
    grown = same ∙ grows_none before;
    within = told_within (λ ls. CodeOnward rows (plain W 0) ls budget (record { printed = []; close = is_suspended; last = plain W 0 })) (λ bytes. is_suspended ≡ is_suspended → passes_limits taken bytes ≡ false)
        taken [] text (no_usable taken text none.1) (record { count = 0; gives = refl }) (none_pass taken text none.1);
    short = λ waits. each_none Short;
  };
  leaves = record { left = 0; is = refl };
}

-- the first line is past the limits

no_line : (taken : ℕ) (text : Option (List ℕ)) → IfSome text (BeginsPastLimits taken) → IfSome text (λ bytes. [] ≡ usable_lines taken bytes)
no_line taken None p = tt
no_line taken (Some t) p = sym (none_usable taken t p)

first_past : (taken : ℕ) (text : Option (List ℕ)) → IfSome text (BeginsPastLimits taken) → IfSome text (λ bytes. passes_limits taken bytes ≡ true)
first_past taken None p = tt
first_past taken (Some t) p = passes_now taken t p

pub on_past : (rows : ℕ → Row) (W : Memory) (budget taken : ℕ) (text before after : Option (List ℕ)) → IfSome text (BeginsPastLimits taken) → after ≡ before → IsCutOff (GoesOn rows (plain W 0) budget) taken text before after
on_past rows W budget taken text before after p same = record {
  lines = [];
  are = no_line taken text p;
  run = record { printed = []; close = is_suspended; last = plain W 0 };
  runs = record { count = 0; gives = refl };
  waits = refl;
  grown = same ∙ grows_none before;
  past = first_past taken text p;
}

-- the first line cannot be read

none_read : (taken : ℕ) (text : Option (List ℕ)) → IfSome text (λ bytes. (more : List (List ℕ)) × (usable_lines taken bytes ≡ [] ++ more))
none_read taken None = tt
none_read taken (Some t) = (usable_lines taken t, refl)

pub on_unread : (rows : ℕ → Row) (W : Memory) (budget taken : ℕ) (text before after : Option (List ℕ)) → after ≡ before → IsBrokenOff (GoesOn rows (plain W 0) budget) taken text before after
on_unread rows W budget taken text before after same = record {
  lines = [];
  are = none_read taken text;
  short = each_none Short;
  run = record { printed = []; close = is_suspended; last = plain W 0 };
  runs = record { count = 0; gives = refl };
  waits = refl;
  grown = same ∙ grows_none before;
}

-- a line that was taken and handed over
pub record LineFed (old mid : Memory) (taken taken' : ℕ) (line : List ℕ) (text next : Option (List ℕ)) : Type 0 where
  pub handed : plain mid 0 ≡ handed_line (plain old 0) line
  pub takes : TakesLine (Some line) text next
  pub within : IsWithinLimits taken line
  pub taken_is : taken' ≡ taken + length line + 1

module _ {old mid : Memory} {taken taken' : ℕ} {line : List ℕ} {text next : Option (List ℕ)} (rows : ℕ → Row) (budget : ℕ) (before after : Option (List ℕ)) (h : LineFed old mid taken taken' line text next) where
  goes : (lines : List (List ℕ)) (r : Run) → CodeRun rows (plain mid 0) lines budget r → CodeOnward rows (plain old 0) (line ∷ lines) budget r
  goes lines r c = record { count = c.count; gives = subst (λ (V : World). run_from rows c.count V lines budget ≡ Some r) h.handed c.gives }

  back : (lines : List (List ℕ)) (r : Run) → CodeOnward rows (plain old 0) (line ∷ lines) budget r → CodeRun rows (plain mid 0) lines budget r
  back lines r c = record { count = c.count; gives = subst (λ (V : World). run_from rows c.count V lines budget ≡ Some r) (sym h.handed) c.gives }

  usable : (b n : List ℕ) → lines_of b ≡ line ∷ lines_of n → usable_lines taken b ≡ line ∷ usable_lines taken' n
  usable b n e = ap (lines_within taken) e ∙ keeps_within taken line (lines_of n) h.within ∙ ap (λ m. line ∷ lines_within m (lines_of n)) (sym h.taken_is)

  passing : (b n : List ℕ) → lines_of b ≡ line ∷ lines_of n → passes_limits taken b ≡ passes_limits taken' n
  passing b n e = ap (pass_limits taken) e ∙ passes_on taken line (lines_of n) h.within ∙ ap (λ m. pass_limits m (lines_of n)) (sym h.taken_is)

  one_more : (lines : List (List ℕ)) (text next : Option (List ℕ)) → TakesLine (Some line) text next → IfSome next (λ bytes. lines ≡ usable_lines taken' bytes) → IfSome text (λ bytes. line ∷ lines ≡ usable_lines taken bytes)
  one_more lines None next takes are = tt
  one_more lines (Some b) None takes are = absurd (cc)
  one_more lines (Some b) (Some n) takes are = ap (λ ls. line ∷ ls) are ∙ sym (usable b n (some_same (lines_of b) (line ∷ lines_of n) takes))

  same_past : (t : Bool) (text next : Option (List ℕ)) → TakesLine (Some line) text next → IfSome next (λ bytes. passes_limits taken' bytes ≡ t) → IfSome text (λ bytes. passes_limits taken bytes ≡ t)
  same_past t None next takes p = tt
  same_past t (Some b) None takes p = absurd (cc)
  same_past t (Some b) (Some n) takes p = passing b n (some_same (lines_of b) (line ∷ lines_of n) takes) ∙ p

  one_line : (lines : List (List ℕ)) (text next : Option (List ℕ)) → TakesLine (Some line) text next → IfSome next (λ bytes. lines ≡ lines_of bytes) → IfSome text (λ bytes. line ∷ lines ≡ lines_of bytes)
  one_line lines None next takes are = tt
  one_line lines (Some b) None takes are = absurd (cc)
  one_line lines (Some b) (Some n) takes are = ap (λ ls. line ∷ ls) are ∙ sym (some_same (lines_of b) (line ∷ lines_of n) takes)

  still_within : (close : Close) (run : Run) (text next : Option (List ℕ)) → TakesLine (Some line) text next
      → IfSome next (λ bytes. CodeRun rows (plain mid 0) (usable_lines taken' bytes) budget run × (close ≡ is_suspended → passes_limits taken' bytes ≡ false))
      → IfSome text (λ bytes. CodeOnward rows (plain old 0) (usable_lines taken bytes) budget run × (close ≡ is_suspended → passes_limits taken bytes ≡ false))
  still_within close run None next takes w = tt
  still_within close run (Some b) None takes w = absurd (cc)
  still_within close run (Some b) (Some n) takes w =
      let e : lines_of b ≡ line ∷ lines_of n = some_same (lines_of b) (line ∷ lines_of n) takes in
      (subst (λ ls. CodeOnward rows (plain old 0) ls budget run) (sym (usable b n e)) (goes (usable_lines taken' n) run w.0), λ c. passing b n e ∙ w.1 c)

  pub on_fed : (new : Memory) (close : Close) → IsFedTo (Does rows (plain mid 0) budget) taken' next before after close new → IsFedTo (GoesOn rows (plain old 0) budget) taken text before after close new
  on_fed new close f = record {
    fed = record {
      lines = line ∷ f.fed.lines;
      are = one_line f.fed.lines text next h.takes f.fed.are;
      run = f.fed.run;
      runs = goes f.fed.lines f.fed.run f.fed.runs;
      closes = f.fed.closes;
      grown = f.fed.grown;
      within = still_within close f.fed.run text next h.takes f.fed.within;
      short = λ waits. each_cons Short line f.fed.lines h.within.short_line (f.fed.short waits);
    };
    leaves = record { left = f.leaves.left; is = f.leaves.is };
  }

  pub on_cut : IsCutOff (Does rows (plain mid 0) budget) taken' next before after → IsCutOff (GoesOn rows (plain old 0) budget) taken text before after
  on_cut f = record {
    lines = line ∷ f.lines;
    are = one_more f.lines text next h.takes f.are;
    run = f.run;
    runs = goes f.lines f.run f.runs;
    waits = f.waits;
    grown = f.grown;
    past = same_past true text next h.takes f.past;
  }

  one_first : (lines : List (List ℕ)) (text next : Option (List ℕ)) → TakesLine (Some line) text next → IfSome next (λ bytes. (more : List (List ℕ)) × (usable_lines taken' bytes ≡ lines ++ more))
      → IfSome text (λ bytes. (more : List (List ℕ)) × (usable_lines taken bytes ≡ (line ∷ lines) ++ more))
  one_first lines None next takes are = tt
  one_first lines (Some b) None takes are = absurd (cc)
  one_first lines (Some b) (Some n) takes are = (are.0, usable b n (some_same (lines_of b) (line ∷ lines_of n) takes) ∙ ap (λ ls. line ∷ ls) are.1)

  pub on_broken : IsBrokenOff (Does rows (plain mid 0) budget) taken' next before after → IsBrokenOff (GoesOn rows (plain old 0) budget) taken text before after
  on_broken f = record {
    lines = line ∷ f.lines;
    are = one_first f.lines text next h.takes f.are;
    short = each_cons Short line f.lines h.within.short_line f.short;
    run = f.run;
    runs = goes f.lines f.run f.runs;
    waits = f.waits;
    grown = f.grown;
  }

  pub on_front : IsFedFront (Does rows (plain mid 0) budget) taken' next before after → IsFedFront (GoesOn rows (plain old 0) budget) taken text before after
  on_front f = record { is = by text next h.takes f.is }
    where
      by : (text next : Option (List ℕ)) → TakesLine (Some line) text next → IfSome next (λ bytes. (run : Run) → Does rows (plain mid 0) budget (usable_lines taken' bytes) run → GrowsByFront run.printed before after)
          → IfSome text (λ bytes. (run : Run) → GoesOn rows (plain old 0) budget (usable_lines taken bytes) run → GrowsByFront run.printed before after)
      by None next takes f = tt
      by (Some b) None takes f = absurd (cc)
      by (Some b) (Some n) takes f =
          λ r x. f r (back (usable_lines taken' n) r (subst (λ ls. CodeOnward rows (plain old 0) ls budget r) (usable b n (some_same (lines_of b) (line ∷ lines_of n) takes)) x))

pub line_fed : (old mid : Memory) (taken taken' : ℕ) (o : Option (List ℕ)) (line bytes : List ℕ) (text next : Option (List ℕ)) → o ≡ Some line → TakesLine o text next → IfSome o (λ l. IsWithinLimits taken l)
    → taken' ≡ taken_with taken o → bytes ≡ line → plain mid 0 ≡ handed_line (plain old 0) bytes → LineFed old mid taken taken' line text next
line_fed old mid taken taken' o line bytes text next is takes within counts same handed = record {
  handed = handed ∙ ap (handed_line (plain old 0)) same;
  takes = subst (λ o. TakesLine o text next) is takes;
  within = subst (λ o. IfSome o (λ l. IsWithinLimits taken l)) is within;
  taken_is = subst (λ o. taken' ≡ taken_with taken o) is counts;
}
