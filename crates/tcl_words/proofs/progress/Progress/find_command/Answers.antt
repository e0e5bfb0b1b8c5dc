use Rattle.tcl_words.proofs.Common.{◌+◌, ◌-◌, ◌∙◌, ap, arith, drop, length-take, length-drop, take_rest, later, ◌≡◌}
use Rattle.tcl_words.proofs.Common.{take, scanned, IsProgress, StopsAs, BeforeCommand}
use Rattle.tcl_words.proofs.Finding.{progress_more, progress_scan, progress_reaches, progress_depth, command_of}
use Rattle.tcl_words.proofs.Finding.{refused_of, refused_met, reached_of, no_fault_of, stops_after}
use Rattle.tcl_words.proofs.progress.Progress.find_command.Goals.{After-scan_bytes}
use Rattle.tcl_words.proofs.progress.Progress.find_command.Goals as goal

pub scan_bytes-requires : goal.scan_bytes-requires
scan_bytes-requires c =
    let depth = progress_depth c.args.rest.now c.args.self.now c.requires in
    let order = c.requires.order in
    omega (
      arith,
      length-take (c.args.self.now.valid + c.text_front-front.result.len - c.args.self.now.seen)
          (drop c.args.self.now.seen c.args.rest.now),
      length-drop c.args.self.now.seen c.args.rest.now,
    )

-- the text at the front, read further, and what its scan finds
progress : (c : After-scan_bytes) → IsProgress c.args.rest.now
    (record c.args.self.now { valid = c.args.self.now.valid + c.text_front-front.result.len })
progress c = progress_more c.text_front-front.result.len c.requires (take_rest c.args.rest.now c.args.self.now.valid)
    c.text_front-front.ensures.within c.text_front-front.ensures.text

scan : (c : After-scan_bytes)
    → scanned (take (c.args.self.now.valid + c.text_front-front.result.len) c.args.rest.now) BeforeCommand
    ≡ later c.args.self.now.seen c.scan_bytes.result
scan c = progress_scan (progress c) c.scan_bytes.ensures

stops : (c : After-scan_bytes) → StopsAs c.text_front-front.result.stop
    (drop (c.args.self.now.valid + c.text_front-front.result.len) c.args.rest.now)
stops c = stops_after c.args.rest.now c.args.self.now.valid c.text_front-front.result.len
    c.text_front-front.result.stop (take_rest c.args.rest.now c.args.self.now.valid) c.text_front-front.ensures.stop

pub overflow_add-result : goal.overflow_add-result
overflow_add-result c =
    let place = (goal.at.overflow_add-result c).After-scan_bytes in
    let p = progress place in
    let n = command_of c.args.finished c.args.rest.now _ _ p.within p.text (scan place
    ∙ ap (later c.args.self.now.seen) c.in-EndsAt.is) in
    let low = n.within in
    omega arith

pub returns-in-EndsAt-clause-progress : goal.returns-in-EndsAt-clause-progress
returns-in-EndsAt-clause-progress c = progress (goal.at.returns-in-EndsAt-clause-progress c).After-scan_bytes

pub returns-in-EndsAt-clause-next : goal.returns-in-EndsAt-clause-next
returns-in-EndsAt-clause-next c =
    let place = (goal.at.returns-in-EndsAt-clause-next c).After-scan_bytes in
    let p = progress place in
    command_of c.args.finished c.args.rest.now _ _ p.within p.text (scan place
    ∙ ap (later c.args.self.now.seen) c.in-EndsAt.is)

pub returns-in-Refused-clause-progress : goal.returns-in-Refused-clause-progress
returns-in-Refused-clause-progress c = progress (goal.at.returns-in-Refused-clause-progress c).After-scan_bytes

pub returns-in-Refused-clause-next : goal.returns-in-Refused-clause-next
returns-in-Refused-clause-next c =
    let fault = c.in-Refused.fault in
    let place = (goal.at.returns-in-Refused-clause-next c).After-scan_bytes in
    let text = (progress place).text in
    let found = scan place ∙ ap (later c.args.self.now.seen) c.in-Refused.is in
    (refused_met _ fault text found, refused_of c.args.finished c.args.rest.now _ fault text found)

pub returns-in-Reaches-clause-progress : goal.returns-in-Reaches-clause-progress
returns-in-Reaches-clause-progress c =
    let place = (goal.at.returns-in-Reaches-clause-progress c).After-scan_bytes in
    progress_reaches c.in-Reaches.stage (progress place) (scan place ∙ ap (later c.args.self.now.seen) c.in-Reaches.is)

pub returns-in-Reaches-clause-next : goal.returns-in-Reaches-clause-next
returns-in-Reaches-clause-next c =
    let place = (goal.at.returns-in-Reaches-clause-next c).After-scan_bytes in
    let p = progress place in
    rw c.at_text_end.ensures (reached_of c.text_front-front.result.stop c.args.finished c.args.rest.now _
    c.in-Reaches.stage p.within p.text
    (scan place ∙ ap (later c.args.self.now.seen) c.in-Reaches.is) (stops place))

pub returns-in-Reaches-clause-no_fault : goal.returns-in-Reaches-clause-no_fault
returns-in-Reaches-clause-no_fault c =
    let place = (goal.at.returns-in-Reaches-clause-no_fault c).After-scan_bytes in
    let p = progress place in
    rw c.at_text_end.ensures (no_fault_of c.text_front-front.result.stop c.args.finished c.args.rest.now _
    c.in-Reaches.stage p.within p.text
    (scan place ∙ ap (later c.args.self.now.seen) c.in-Reaches.is) (stops place))
