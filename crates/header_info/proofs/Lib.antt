mod Back
mod Fields
mod Lists
mod Records
