-- The arguments of a command among its words.
use Rattle.peers.proofs.Common.{◌≡◌, ◌-◌, List, take, drop, length, sym, ap, ◌∙◌, drop-map, take_rest, Shape, texts_of}
use Rattle.peers.proofs.Common.{arguments_of, switches_of, String, chars, string_bytes}
use Rattle.std.specs.List.{take-map}

pub arguments-part : {Z : Type 0} (words : List (String Z)) (shape : Shape)
    → texts_of (take (length words - shape.arguments) (drop shape.arguments words))
    ≡ arguments_of shape (texts_of words)
arguments-part {Z} words shape =
    ap texts_of (take_rest words shape.arguments)
    ∙ sym (drop-map (λ word. chars (string_bytes word)) shape.arguments words)

pub switches-part : {Z : Type 0} (words : List (String Z)) (shape : Shape)
    → texts_of (take (shape.arguments - shape.switches) (drop shape.switches words))
    ≡ switches_of shape (texts_of words)
switches-part {Z} words shape =
    sym (take-map (λ word. chars (string_bytes word)) (shape.arguments - shape.switches) (drop shape.switches words))
    ∙ ap (take (shape.arguments - shape.switches))
    (sym (drop-map (λ word. chars (string_bytes word)) shape.switches words))
