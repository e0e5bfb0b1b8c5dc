-- The names that most proofs of this crate cite, passed on from one place. Declares nothing.
pub use Rattle.std.proofs.Common.{[], ℕ, ◌*◌, ◌++◌, ◌+◌, ◌-◌, ◌<◌, ◌||◌, ◌∙◌, ◌∷◌, ◌≡◌, ◌≢◌, ◌≤◌, ◌⊎◌, Bool, List, None}
pub use Rattle.std.proofs.Common.{Option, Some, String, ap, append_assoc, arith, codes, cond, drop, encode_utf8_all}
pub use Rattle.std.proofs.Common.{false, get_or, inl, inr, length, length-append, not, refl, rules, string_bytes, subst}
pub use Rattle.std.proofs.Common.{suc, sym, take, true}
pub use Rattle.command_effects.specs.declared.answers.Answer.{Answer}
pub use Rattle.command_effects.specs.declared.answers.Fault.{Fault}
pub use Rattle.command_effects.specs.declared.answers.Fault.TheVariants.{Memory}
pub use Rattle.peers.specs.Step.{step}
pub use Rattle.peers.specs.World.{World}
pub use Rattle.script_cli.specs.Devices.{Appends, Consumes, HandsOut, LeavesNone, ReadLog, Takes, WriteLog}
pub use Rattle.script_cli.specs.Lines.{answer_text, error_line, fault_line, front_of, is_boundary, line_text}
pub use Rattle.script_cli.specs.Lines.{memory_line, piece, printed, word_at}
pub use Rattle.script_cli.specs.Reading.{Feeds, is_end, unread}
pub use Rattle.script_cli.specs.Run.{Holds, RunsTo, WritesFront, WritesRun, last_piece, no_documents, refused_count}
pub use Rattle.script_cli.specs.Run.{run_output}
pub use Rattle.script_cli.specs.Sending.{Gathers, Sends}
pub use Rattle.script_cli.specs.Told.{WantsMemory, WritesFrontOf, WritesFrontOfRead, WritesRunOf}
pub use Rattle.script_cli.specs.Turns.{Meets, MeetsCommand, Replies, goes_on, is_fault, is_refusal}
pub use Rattle.script_cli.specs.declared.summary.RunSummary.{RunSummary}
pub use Rattle.script_cli.specs.declared.turns.Met.{Met}
pub use Rattle.std.proofs.lemmas.Bool.{false≢true, true≢false}
pub use Rattle.std.proofs.lemmas.Grind.{common_steps}
pub use Rattle.std.proofs.lemmas.List.{append-nil, get_or-map, take-append-drop, take_all}
pub use Rattle.std.proofs.lemmas.Str.{chars-nil, encodes-append, encodes-chars}
pub use Rattle.std.specs.Prelude.{if◌then◌else◌, Err, IfErr, IfSome, Ok, OnErr, OnOk, Result, bytes_eq, is_err, is_ok}
pub use Rattle.std.specs.Prelude.{is_some}
pub use Rattle.tcl_words.proofs.Readings.{a_reading, one_script}
pub use Rattle.tcl_words.specs.ScriptGrammar.{IsCommandBefore, ReadsFront, ReadsScript}
pub use Rattle.tcl_words.specs.Unread.{HasFault, HasNoCommand, IsNextCommand, StopsAt, TakesCommand, Unread, texts_of}
pub use Rattle.tcl_words.specs.declared.fault.ScriptFault.{ScriptFault}
pub use Rattle.text_model.specs.LimitTable.{LimitTable}
