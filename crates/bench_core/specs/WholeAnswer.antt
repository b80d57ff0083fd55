-- What the call answers, as its words and the files have it.
use Rattle.std.specs.Prelude.{ℕ, List, Option, Some, None}
use Rattle.bench_core.specs.Outcomes.{Outcome, refused}
use Rattle.bench_core.specs.RefusalTexts.{usage}
use Rattle.bench_core.specs.Requests.{Request, check, run, request_of}
use Rattle.bench_core.specs.CheckAnswer.{check_answer}
use Rattle.bench_core.specs.RunAnswer.{run_answer}

-- the answer of each command
abbrev pub request_answer : List (List ℕ × List ℕ) → Request → Outcome
request_answer files (check net cert) = check_answer files net cert
request_answer files (run net rec) = run_answer files net rec

-- the answer where the words ask for a command, and where they are outside the grammar
abbrev pub answer_of_request : List (List ℕ × List ℕ) → Option Request → Outcome
answer_of_request files None = refused usage
answer_of_request files (Some request) = request_answer files request

-- the call's answer
unfoldable pub answer_of : List (List ℕ) → List (List ℕ × List ℕ) → Outcome
answer_of words files = answer_of_request files (request_of words)
