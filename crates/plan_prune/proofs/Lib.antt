mod HardClaims
mod OpenQueries
mod Pruned
mod RoundSteps
