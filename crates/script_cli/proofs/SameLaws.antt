-- Two runs of one script.
use Rattle.script_cli.proofs.Common.{◌≡◌, ℕ, List, [], Option, Some, ◌⊎◌, inl, inr, sym, ap, ◌∙◌, encode_utf8_all}
use Rattle.script_cli.proofs.Common.{LimitTable, ReadsScript, ScriptFault, one_script, RunSummary, no_documents}
use Rattle.script_cli.proofs.Common.{run_output, WritesRunOf, WantsMemory}
use Rattle.std.proofs.lemmas.Option.{same_Some}
use Rattle.script_cli.proofs.RunLaws.{compared}

-- the plain run of a script, as bytes
abbrev IsPlainBytes : LimitTable → List ℕ → List ℕ → Type 0
IsPlainBytes limits script bytes =
    (commands : List (List (List ℕ))) × (fault : Option ScriptFault) × ReadsScript script commands fault
    × (bytes ≡ encode_utf8_all (run_output (no_documents limits) commands fault))

plain_or_wanting : (limits : LimitTable) (script bytes : List ℕ) (summary : RunSummary) →
    WritesRunOf limits script (Some []) (Some bytes) summary →
    IsPlainBytes limits script bytes ⊎ WantsMemory limits script bytes
plain_or_wanting limits script bytes summary writes =
    let commands = writes.0 in let fault = writes.1 in let out = writes.2 in
    let told = same_Some bytes (encode_utf8_all out) writes.5 in
    elim (compared commands (no_documents limits) fault out summary.refused writes.4) as
    (λ _. IsPlainBytes limits script bytes ⊎ WantsMemory limits script bytes) [
      | inl plain ↦ inl (commands, fault, writes.3, told ∙ ap encode_utf8_all plain.0)
      | inr other ↦ elim other as (λ _. IsPlainBytes limits script bytes ⊎ WantsMemory limits script bytes) [
        | inl same ↦ inl (commands, fault, writes.3, told ∙ ap encode_utf8_all same.0)
        | inr cut ↦ inr (commands, fault, out, writes.3, cut, told)
      ]
    ]

same_plain : (limits : LimitTable) (script one other : List ℕ) → IsPlainBytes limits script one →
    IsPlainBytes limits script other → one ≡ other
same_plain limits script one other first second =
    let same = one_script first.0 second.0 script first.1 second.1 first.2 second.2 in
    first.3 ∙ (λ i. encode_utf8_all (run_output (no_documents limits) (same.0 i) (same.1 i))) ∙ sym second.3

pub same_or_wanting : (limits : LimitTable) (script one other : List ℕ) (summary another : RunSummary) →
    WritesRunOf limits script (Some []) (Some one) summary → WritesRunOf limits script (Some []) (Some other) another →
    (one ≡ other) ⊎ (WantsMemory limits script one ⊎ WantsMemory limits script other)
same_or_wanting limits script one other summary another writes writes_too =
    elim (plain_or_wanting limits script one summary writes) as
    (λ _. (one ≡ other) ⊎ (WantsMemory limits script one ⊎ WantsMemory limits script other)) [
      | inl first ↦ elim (plain_or_wanting limits script other another writes_too) as
          (λ _. (one ≡ other) ⊎ (WantsMemory limits script one ⊎ WantsMemory limits script other)) [
            | inl second ↦ inl (same_plain limits script one other first second)
            | inr wanting ↦ inr (inr wanting)
          ]
      | inr wanting ↦ inr (inl wanting)
    ]
