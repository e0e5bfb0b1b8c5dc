use Rattle.documents.proofs.Common.{append-nil, refl, rules, sym, IfOk-from_err}
use Rattle.documents.proofs.ResultLaws.{on_err}
use Rattle.documents.proofs.SeatLaws.{seat-put, seats-same}
use Rattle.documents.proofs.seats.make_seat.Goals as goal

pub returns-in_err-from_str : goal.returns-in_err-from_str
returns-in_err-from_str g c =
    let result = c.from_residual.result in
    record {
      seat = IfOk-from_err result _ c.from_residual.ensures.0;
      room = IfOk-from_err result _ c.from_residual.ensures.0;
      disabled = (0, sym (append-nil _));
      anchors = (0, sym (append-nil _));
      history = refl;
      front = seats-same c.args.seats.now c.args.seats.now refl;
      err = on_err result refl;
    }

pub returns-in_err-slot : goal.returns-in_err-slot
returns-in_err-slot g c =
    let result = c.from_residual-in_err-slot.result in
    record {
      seat = IfOk-from_err result _ c.from_residual-in_err-slot.ensures.0;
      room = IfOk-from_err result _ c.from_residual-in_err-slot.ensures.0;
      disabled = (0, sym (append-nil _));
      anchors = (0, sym (append-nil _));
      history = refl;
      front = seats-same c.args.seats.now c.create.new.self c.in_err-slot.ensures.err;
      err = on_err result refl;
    }

pub returns-in_err-make_room : goal.returns-in_err-make_room
returns-in_err-make_room g c =
    let result = c.from_residual-in_err-make_room.result in
    record {
      seat = IfOk-from_err result _ c.from_residual-in_err-make_room.ensures.0;
      room = IfOk-from_err result _ c.from_residual-in_err-make_room.ensures.0;
      disabled = c.in_err-make_room.ensures.longer;
      anchors = (0, sym (append-nil _));
      history = refl;
      front = (seat-put c.args.seats.now c.create.new.self c.in-Some.is c.in_ok-from_str.ensures.ok
          c.in_ok-slot.ensures.last).front;
      err = on_err result refl;
    }

pub returns-in_err-make_room-2 : goal.returns-in_err-make_room-2
returns-in_err-make_room-2 g c =
    let result = c.from_residual-in_err-make_room-2.result in
    record {
      seat = IfOk-from_err result _ c.from_residual-in_err-make_room-2.ensures.0;
      room = IfOk-from_err result _ c.from_residual-in_err-make_room-2.ensures.0;
      disabled = c.in_ok-make_room.ensures.longer;
      anchors = c.in_err-make_room-2.ensures.longer;
      history = refl;
      front = (seat-put c.args.seats.now c.create.new.self c.in-Some.is c.in_ok-from_str.ensures.ok
          c.in_ok-slot.ensures.last).front;
      err = on_err result refl;
    }

pub returns-in_err-put_widget_marks : goal.returns-in_err-put_widget_marks
returns-in_err-put_widget_marks g c =
    let result = c.from_residual-in_err-put_widget_marks.result in
    record {
      seat = IfOk-from_err result _ c.from_residual-in_err-put_widget_marks.ensures.0;
      room = IfOk-from_err result _ c.from_residual-in_err-put_widget_marks.ensures.0;
      disabled = c.in_ok-make_room.ensures.longer;
      anchors = c.in_ok-make_room-2.ensures.longer;
      history = refl;
      front = (seat-put c.args.seats.now c.create.new.self c.in-Some.is c.in_ok-from_str.ensures.ok
          c.in_ok-slot.ensures.last).front;
      err = on_err result c.in_err-put_widget_marks.ensures.err;
    }

pub returns-clause-seat : goal.returns-clause-seat
returns-clause-seat g c = record {
  least = search rules;
  below = search rules;
  last = (seat-put c.args.seats.now c.create.new.self c.in-Some.is c.in_ok-from_str.ensures.ok
      c.in_ok-slot.ensures.last).last;
  sound = search rules;
  store = search rules;
}

pub returns-clause-front : goal.returns-clause-front
returns-clause-front g c =
    (seat-put c.args.seats.now c.create.new.self c.in-Some.is c.in_ok-from_str.ensures.ok
    c.in_ok-slot.ensures.last).front
