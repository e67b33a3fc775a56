-- Calls one after another are sessions one after another.
use Rattle.std.proofs.Common.{◌≡◌, ℕ, true, List, [], ◌∷◌, ◌++◌, map, Option, Some, refl, sym, subst}
use Rattle.code_core.specs.Prototype.{Prototype}
use Rattle.io_edge.specs.Content.{FileMap}
use Rattle.io_edge.specs.Lines.{lines_of}
use Rattle.prelude_code.specs.Prelude.{IsPreludeCode}
use Rattle.prelude_code.proofs.Preludes.{prelude_once}
use Rattle.machine_core.specs.World.{World}
use Rattle.machine_runs.specs.Runs.{Close}
use Rattle.loaded_code.specs.Laws.{library}
use Rattle.source_builds.specs.Readings.{AsRead}
use Rattle.source_builds.proofs.Knowing.{read_map, read_both}
use Rattle.load_rows.specs.Loading.{Builds}
use Rattle.tree_core.specs.Tree.{Body}
use Rattle.lua_feed.specs.Feeding.{Does, GoesOn}
use Rattle.lua_feed.specs.Running.{started}
use Rattle.lua_saving.specs.Saving.{session_reader, session_codes, IsSession}
use Rattle.sessions_join.specs.Sessions.{GoOn, last_session, saved_session, Sessions, only_session, first_session}
use Rattle.program.specs.declared.session.Session.{Session}
use Rattle.program.specs.Devices.{Device, Holds}
use Rattle.program.specs.Meaning.{has_ended}
use Rattle.program.specs.Resuming as resuming
use Rattle.program.specs.Resuming.{IsNotResumed}
use Rattle.program.specs.Running as running
use Rattle.program.specs.Running.{HoldsCode}
use Rattle.program.specs.Sessions.{functions_of, status_of_close, Ends}
use Rattle.program.proofs.DeviceLemmas.{same_content}
use Rattle.program.proofs.Meant.{not_run_ends, ended_so as status_so}
use Rattle.calls_mean.specs.Calls.{Resumed, last_call, saving_call, Calls, only_call, first_call}
use Rattle.calls_mean.proofs.Ended.{Closed, closed_so, saved_so}
use Rattle.program.proofs.ResumeLemmas.{not_resumed_ends}

-- one call

record WentOn (builds : Builds Body) (prelude : Prototype) (budget : ℕ) (save : Option (List ℕ)) (files : Device FileMap) (image text printed : List ℕ) (status : ℕ) : Type 0 where
  session : World
  loaded : IsSession (functions_of prelude) image session
  closed : Closed prelude (GoesOn (library builds) session budget) save files text printed status

went_on : (builds : Builds Body) (prelude : Prototype) → IsPreludeCode prelude → (name image text before printed : List ℕ) (budget : ℕ) (save : Option (List ℕ)) (files : Device FileMap) (input out : Device (List ℕ)) (last : Option Session) (status : ℕ)
    → resuming.IsCause builds name budget save files input out last status → has_ended status ≡ true → Holds files.content name image → input.content ≡ Some text → out.content ≡ Some before → out.content' ≡ Some (before ++ printed)
    → WentOn builds prelude budget save files image text printed status
went_on builds prelude own name image text before printed budget save files input out last status (resuming.not_resumed why still quiet) ended holds told had has = absurd (not_resumed_ends name files status why ended)
went_on builds prelude own name image text before printed budget save files input out last status (resuming.goes_on content other session found is_other loaded waits ends) ended holds told had has =
    let contents : content ≡ image = sym (same_content name content image files.content found holds) in
    let preludes : other ≡ prelude = prelude_once other prelude is_other own in
    let its : IsSession (functions_of prelude) content session = subst (λ p. IsSession (functions_of p) content session) preludes loaded in
    let ended_so : Ends prelude (GoesOn (library builds) session budget) save files input out last status = subst (λ p. Ends p (GoesOn (library builds) session budget) save files input out last status) preludes ends in
    record {
      session = session;
      loaded = subst (λ c. IsSession (functions_of prelude) c session) contents its;
      closed = closed_so prelude (GoesOn (library builds) session budget) save files input out last status text before printed ended_so ended told had has;
    }

pub record HasRun (builds : Builds Body) (name content : List ℕ) (budget : ℕ) (save : Option (List ℕ)) (files : Device FileMap) (text printed : List ℕ) (status : ℕ) : Type 0 where
  pub prelude : Prototype
  pub is_prelude : IsPreludeCode prelude
  pub code : Prototype
  pub holds : HoldsCode name content code
  pub closed : Closed prelude (Does (library builds) (started prelude code) budget) save files text printed status

pub has_run : (builds : Builds Body) (name content text before printed : List ℕ) (budget : ℕ) (save : Option (List ℕ)) (files : Device FileMap) (input out : Device (List ℕ)) (last : Option Session) (status : ℕ)
    → running.IsCause builds name budget save files input out last status → has_ended status ≡ true → Holds files.content name content → input.content ≡ Some text → out.content ≡ Some before → out.content' ≡ Some (before ++ printed)
    → HasRun builds name content budget save files text printed status
has_run builds name content text before printed budget save files input out last status (running.not_run why still quiet) ended holds told had has = absurd (not_run_ends name files status why ended)
has_run builds name content text before printed budget save files input out last status (running.has_run found_content prelude code found is_prelude own ends) ended holds told had has =
    let contents : found_content ≡ content = sym (same_content name found_content content files.content found holds) in
    record {
      prelude = prelude;
      is_prelude = is_prelude;
      code = code;
      holds = subst (λ c. HoldsCode name c code) contents own;
      closed = closed_so prelude (Does (library builds) (started prelude code) budget) save files input out last status text before printed ends ended told had has;
    }

-- all calls

record OnFrom (builds : Builds Body) (prelude : Prototype) (budget : ℕ) (image : List ℕ) (texts : List (List ℕ)) (printed : List ℕ) (status : ℕ) : Type 0 where
  close : Close
  answers : status ≡ status_of_close close
  sessions : GoOn session_reader (session_codes (functions_of prelude)) (functions_of prelude) (library builds) budget image (map lines_of texts) printed close

-- over the code of the prelude, which is one
abbrev GoOnFrom : Builds Body → (budget : ℕ) (image : List ℕ) (texts : List (List ℕ)) (printed : List ℕ) (status : ℕ) → Type 0
GoOnFrom builds budget image texts printed status = (prelude : Prototype) → IsPreludeCode prelude → OnFrom builds prelude budget image texts printed status

on_from : (budget : ℕ) (image : List ℕ) (texts : List (List ℕ)) (printed : List ℕ) (status : ℕ) → Resumed budget image texts printed status → AsRead (λ builds. GoOnFrom builds budget image texts printed status)
on_from budget image texts all status (last_call session name text printed save end call ended) =
    read_map (λ builds are is prelude own.
    let r = went_on builds prelude own name session text call.before printed budget save call.files call.input call.out call.last end is.cause ended call.holds call.reads call.had call.has in
    record {
      close = r.closed.run.close;
      answers = status_so prelude r.closed.run save call.files end r.closed.left ended;
      sessions = subst (λ t. GoOn session_reader (session_codes (functions_of prelude)) (functions_of prelude) (library builds) budget session (lines_of text ∷ []) t r.closed.run.close) r.closed.prints
          (last_session session r.session (lines_of text) r.closed.run r.loaded r.closed.runs);
    }) call.is_call
on_from budget image texts all status (saving_call session name text printed file next later more end call saved rest) =
    read_both (λ builds are is later_goes prelude own.
    let r = went_on builds prelude own name session text call.before printed budget (Some file) call.files call.input call.out call.last 3 is.cause refl call.holds call.reads call.had call.has in
    let s = saved_so prelude r.closed.run call.files file next 3 r.closed.left refl saved in
    let k = later_goes prelude own in
    record {
      close = k.close;
      answers = k.answers;
      sessions = subst (λ t. GoOn session_reader (session_codes (functions_of prelude)) (functions_of prelude) (library builds) budget session (lines_of text ∷ map lines_of later) (t ++ more) k.close) r.closed.prints
          (saved_session session r.session (lines_of text) r.closed.run next (map lines_of later) more k.close r.loaded r.closed.runs s.0 s.1 k.sessions);
    }) call.is_call (on_from budget next later more end rest)

pub record Chain (builds : Builds Body) (name content : List ℕ) (budget : ℕ) (texts : List (List ℕ)) (printed : List ℕ) (status : ℕ) : Type 0 where
  pub prelude : Prototype
  pub is_prelude : IsPreludeCode prelude
  pub code : Prototype
  pub holds : HoldsCode name content code
  pub close : Close
  pub answers : status ≡ status_of_close close
  pub sessions : Sessions session_reader (session_codes (functions_of prelude)) (functions_of prelude) (library builds) budget code (map lines_of texts) printed close

pub chain_of : (name content : List ℕ) (budget : ℕ) (texts : List (List ℕ)) (printed : List ℕ) (status : ℕ) → Calls budget name content texts printed status → AsRead (λ builds. Chain builds name content budget texts printed status)
chain_of name content budget texts all status (only_call text printed save end call ended) =
    read_map (λ builds are is.
    let r = has_run builds name content text call.before printed budget save call.files call.input call.out call.last end is.cause ended call.holds call.reads call.had call.has in
    record {
      prelude = r.prelude;
      is_prelude = r.is_prelude;
      code = r.code;
      holds = r.holds;
      close = r.closed.run.close;
      answers = status_so r.prelude r.closed.run save call.files end r.closed.left ended;
      sessions = subst (λ t. Sessions session_reader (session_codes (functions_of r.prelude)) (functions_of r.prelude) (library builds) budget r.code (lines_of text ∷ []) t r.closed.run.close) r.closed.prints
          (only_session (lines_of text) r.closed.run r.closed.runs);
    }) call.is_call
chain_of name content budget texts all status (first_call text printed file next later more end call saved rest) =
    read_both (λ builds are is later_goes.
    let r = has_run builds name content text call.before printed budget (Some file) call.files call.input call.out call.last 3 is.cause refl call.holds call.reads call.had call.has in
    let s = saved_so r.prelude r.closed.run call.files file next 3 r.closed.left refl saved in
    let k = later_goes r.prelude r.is_prelude in
    record {
      prelude = r.prelude;
      is_prelude = r.is_prelude;
      code = r.code;
      holds = r.holds;
      close = k.close;
      answers = k.answers;
      sessions = subst (λ t. Sessions session_reader (session_codes (functions_of r.prelude)) (functions_of r.prelude) (library builds) budget r.code (lines_of text ∷ map lines_of later) (t ++ more) k.close) r.closed.prints
          (first_session (lines_of text) r.closed.run next (map lines_of later) more k.close r.closed.runs s.0 s.1 k.sessions);
    }) call.is_call (on_from budget next later more end rest)
