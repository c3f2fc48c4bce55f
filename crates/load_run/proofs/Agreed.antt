-- With how many records clients agree, client by client.
use Rattle.std.proofs.Common.{◌≡◌, ℕ, ◌+◌, ◌<◌, List, [], ◌∷◌, ◌++◌, length, take, get_or, sym, ap, ◌∙◌, subst, arith}
use Rattle.std.proofs.lemmas.List.{take_more, length-take-le}
use Rattle.guild_model.specs.Record.{Record}
use Rattle.load_client.specs.Agreement.{AgreeSo}
use Rattle.load_client.specs.declared.ended_client.EndedClient.{EndedClient}
use Rattle.load_run.specs.Ends.{AllAgreeSo}
use Rattle.load_run.specs.Loads.{viewer_of}

pub agree_more : (rs : List Record) (k j : ℕ) (cs : List EndedClient) (ns : List ℕ) (c : EndedClient) (n : ℕ) → AllAgreeSo rs k cs ns → k + length cs ≡ j → AgreeSo (viewer_of j) c.client.kept rs n → AllAgreeSo rs k (cs ++ c ∷ []) (ns ++ n ∷ [])
agree_more rs k j [] [] c n all e one =
    let same : j ≡ k = omega (arith, e) in (subst (λ i. AgreeSo (viewer_of i) c.client.kept rs n) same one, tt)
agree_more rs k j [] (m ∷ ms) c n all e one = elim all [ ]
agree_more rs k j (d ∷ cs) [] c n all e one = elim all [ ]
agree_more rs k j (d ∷ cs) (m ∷ ms) c n all e one = (all.0, agree_more rs (k + 1) j cs ms c n all.1 (omega (arith, e)) one)

-- one more client of a list
pub agree_next : (rs : List Record) (j : ℕ) (cs : List EndedClient) (ns : List ℕ) (c : EndedClient) (n : ℕ) → j < length cs → get_or cs j c ≡ c → AllAgreeSo rs 0 (take j cs) ns → AgreeSo (viewer_of j) c.client.kept rs n
    → AllAgreeSo rs 0 (take (j + 1) cs) (ns ++ n ∷ [])
agree_next rs j cs ns c n lt at all one =
    let size : length (take j cs) ≡ j = length-take-le j cs (omega (arith, lt)) in
    let many : 0 + length (take j cs) ≡ j = omega (arith, size) in
    subst (λ l. AllAgreeSo rs 0 l (ns ++ n ∷ [])) (sym (take_more cs j c lt ∙ ap (λ x. take j cs ++ x ∷ []) at)) (agree_more rs 0 j (take j cs) ns c n all many one)
