mod Back
mod LaidFields
mod Lists
mod Standing
